use Rattle.draw_lines.proofs.Adding.{add_nothing, add-path}
use Rattle.draw_lines.proofs.Owning.{own-none, own-one}
use Rattle.paths.proofs.Parts.{range-fits, span-slice}
use Rattle.paths.specs.Ends.{all_points}
use mathlib.Core.Path.{sym, ap, ◌∙◌}
use mathlib.Core.List.{List, [], ◌∷◌}
use Rattle.geometry.specs.declared.vector.Vector.{Vector}
use Rattle.draw_lines.proofs.own_path.Goals as goal

pub returns-then-not-owned : goal.returns-then-not-owned
returns-then-not-owned c =
    let args = c.args in let pre = c.requires in add_nothing args.out.now args.begins.now args.n args.m _ (own-none args.i (all_points args.points.now) args.starts.now args.owners.now args.j c.owned.ensures c.if-not-owned.true) pre.1 pre.2

pub one_path-requires : goal.one_path-requires
one_path-requires c =
    let args = c.args in let pre = c.requires in let w = range-fits args.points.now args.starts.now args.j c.range_of-p.result c.range_of-p.ensures in (w.0, w.1, pre.1, pre.2)

pub returns : goal.returns
returns c =
    let args = c.args in add-path args.out.now args.begins.now args.n args.m _ _ (own-one args.i (all_points args.points.now) args.starts.now args.owners.now args.j c.owned.ensures c.if-not-owned.false ∙ ap (λ (p : List Vector). p ∷ []) (sym (span-slice args.points.now args.starts.now args.j c.range_of-p.result c.range_of-p.ensures))) _ _ c.one_path.ensures
