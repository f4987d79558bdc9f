use Rattle.std.proofs.lemmas.Result.{err_from_is_err_and}
use Rattle.path_chop.proofs.Halving.{chop-none, chop-some}
use Rattle.path_chop.specs.Chop.{most_halvings, chop_from}
use Rattle.paths.proofs.Runs.{run-refused, run_on}
use Rattle.paths.proofs.Ending.{ends_as, answers}
use Rattle.paths.specs.Ends.{all_points}
use Rattle.paths.specs.Paths.{push}
use Rattle.geometry.specs.declared.vector.Vector.{Vector}
use native.Mathlib.Omega.{arith}
use lib.Seq.{slice}
use mathlib.Core.List.{List}
use Prim.Native.Nat.{ℕ, ◌+◌}
use Rattle.path_chop.proofs.path_chop_adaptive.Goals as goal

pub returns-then-end-from : goal.returns-then-end-from
returns-then-end-from c =
    let args = c.args in let pre = c.requires in answers args.n args.out.now (chop-none args.s args.path.now args.from args.end _ _ pre.0 c.if-end-from.true) pre.2

pub chop_from-requires : goal.chop_from-requires
chop_from-requires c =
    let pre = c.requires in (omega (arith, c.if-end-from.false), pre.1, c.push.ensures.fits _ c.in_ok-q.was)

pub returns-in_err-q : goal.returns-in_err-q
returns-in_err-q c =
    let p = err_from_is_err_and c.from_residual.result c.from_residual.ensures.1 in rw (p.1, p.2) (let args = c.args in let pre = c.requires in ends_as (chop-some args.s args.path.now args.from args.end _ _ c.read_point-v.result c.spot_of-a.result c.if-end-from.false pre.1 c.read_point-v.ensures c.spot_of-a.ensures) (run-refused (λ (l : ℕ) (o : List Vector). push l o c.read_point-v.result) (λ (l : ℕ) (o : List Vector). chop_from most_halvings args.s l c.spot_of-a.result (slice (args.from + 1) args.end (all_points args.path.now)) o) args.out.now _ args.n c.push.ensures c.in_err-q.was))

pub returns : goal.returns
returns c =
    let args = c.args in let pre = c.requires in ends_as (chop-some args.s args.path.now args.from args.end _ _ c.read_point-v.result c.spot_of-a.result c.if-end-from.false pre.1 c.read_point-v.ensures c.spot_of-a.ensures) (run_on (λ (l : ℕ) (o : List Vector). push l o c.read_point-v.result) (λ (l : ℕ) (o : List Vector). chop_from most_halvings args.s l c.spot_of-a.result (slice (args.from + 1) args.end (all_points args.path.now)) o) args.out.now _ args.n c.push.ensures _ c.in_ok-q.was c.push.auto.out c.chop_from.ensures)
