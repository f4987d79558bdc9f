use Rattle.std.proofs.lemmas.Result.{err_from_is_err_and}
use Rattle.draw_lines.proofs.Adding.{adds-refused, adds_one}
use mathlib.Core.List.{[], ◌∷◌}
use Rattle.rows.specs.Rows.{view}
use borrow.Author.Rules.{rules}
use Rattle.draw_lines.proofs.line.Goals as goal

pub one_path-requires : goal.one_path-requires
one_path-requires c =
    let pre = c.requires in (search rules, search rules, (pre _ _ c.in_ok-n.was).0, (pre _ _ c.in_ok-n.was).1)

pub returns-in_err-n : goal.returns-in_err-n
returns-in_err-n c =
    let p = err_from_is_err_and c.from_residual.result c.from_residual.ensures.1 in rw (p.1, p.2) (adds-refused _ _ _ c.in_err-n.was)

pub returns : goal.returns
unfolding view
returns c =
    let args = c.args in adds_one (args.a ∷ args.b ∷ []) args.out.now args.begins.now _ _ c.in_ok-n.was c.one_path.ensures
