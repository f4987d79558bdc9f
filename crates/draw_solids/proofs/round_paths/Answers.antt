use Rattle.std.proofs.lemmas.Result.{err_from_is_err_and}
use Rattle.draw_lines.specs.Lines.{own_paths}
use Rattle.draw_solids.specs.Stripes.{round_striped}
use Rattle.draw_solids.proofs.Spacing.{joined-refused, joined}
use Rattle.paths.specs.Paths.{paths_of}
use Rattle.paths.specs.Ends.{all_points}
use mathlib.Core.Path.{◌∙◌}
use Rattle.draw_solids.proofs.round_paths.Goals as goal

pub handed_paths-requires : goal.handed_paths-requires
handed_paths-requires c =
    c.round_striped.ensures.fits _ _ c.in_ok-p.was

pub returns-in_err-p : goal.returns-in_err-p
returns-in_err-p c =
    let p = err_from_is_err_and c.from_residual.result c.from_residual.ensures.1 in rw (p.1, p.2) (let args = c.args in let pre = c.requires in joined-refused (round_striped args.flank args.count) (own_paths args.i (paths_of (all_points args.points.now) args.starts.now) args.owners.now)
    args.out.now args.begins.now args.n args.m pre.0 pre.1 _ _ c.round_striped.ensures c.in_err-p.was)

pub shape_of-out : goal.shape_of-out
shape_of-out c =
    c.handed_paths.auto.out ∙ c.round_striped.auto.out

pub shape_of-begins : goal.shape_of-begins
shape_of-begins c =
    c.handed_paths.auto.begins ∙ c.round_striped.auto.begins

pub returns : goal.returns
returns c =
    let args = c.args in let pre = c.requires in joined (round_striped args.flank args.count) (own_paths args.i (paths_of (all_points args.points.now) args.starts.now) args.owners.now)
    args.out.now args.begins.now args.n args.m pre.0 pre.1 _ _ c.round_striped.ensures c.round_striped.auto.out c.round_striped.auto.begins c.in_ok-p.was
    _ _ c.handed_paths.ensures
