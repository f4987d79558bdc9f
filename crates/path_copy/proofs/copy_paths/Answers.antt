use Rattle.std.proofs.lemmas.Result.{err_from_is_err_and}
use Rattle.paths.specs.Paths.{paths_with}
use Rattle.paths.specs.Ends.{all_points}
use Rattle.path_copy.proofs.Copying.{whole, starts-short, points-short, all-copied}
use Rattle.path_copy.proofs.copy_paths.Goals as goal

pub returns-then-begins-m : goal.returns-then-begins-m
returns-then-begins-m c =
    starts-short _ _ _ c.if-begins-m.true _ _

pub returns-in_err-n : goal.returns-in_err-n
returns-in_err-n c =
    let p = err_from_is_err_and c.from_residual.result c.from_residual.ensures.1 in rw (p.1, p.2) (let args = c.args in points-short _ _ (paths_with (all_points args.path.now) args.starts.now) c.if-begins-m.false _ (whole _ args.out.now args.path.now c.extend-c.ensures) _ _ c.in_err-n.was)

pub returns : goal.returns
returns c =
    let args = c.args in all-copied _ _ (paths_with (all_points args.path.now) args.starts.now) c.if-begins-m.false _ (whole _ args.out.now args.path.now c.extend-c.ensures) _ _ c.in_ok-n.was c.copy_starts.auto.to c.copy_starts.ensures
