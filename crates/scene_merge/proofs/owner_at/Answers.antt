use Rattle.scene_merge.specs.MergedScenes.{raised_by}
use lib.ListN.{length}
use Prim.Native.Nat.{◌-◌}
use Rattle.scene_merge.proofs.Raising.{raised-second, raised-past}
use Rattle.scene_merge.proofs.Laying.{in-first}
use native.Mathlib.Omega.{arith}
use Rattle.scene_merge.proofs.owner_at.Goals as goal

pub returns-then-k-first : goal.returns-then-k-first
returns-then-k-first c =
    let args = c.args in in-first args.first.now (raised_by args.by args.second.now) args.k 0 0 c.if-k-first.true

pub overflow_add-result : goal.overflow_add-result
overflow_add-result c =
    omega (arith, c.requires _ c.if-i-second.true)

pub returns-then-i-second : goal.returns-then-i-second
returns-then-i-second c =
    let args = c.args in raised-second args.first.now args.second.now args.by args.k (args.k - length args.first.now) (omega (arith, c.if-k-first.false)) c.if-i-second.true

pub returns : goal.returns
returns c =
    let args = c.args in raised-past args.first.now args.second.now args.by args.k (omega (arith, c.if-k-first.false, c.if-i-second.false))
