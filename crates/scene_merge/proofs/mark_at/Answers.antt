use Rattle.scene_merge.specs.MergedScenes.{raised_marks}
use lib.ListN.{length}
use Prim.Native.Nat.{◌-◌, ◌/◌}
use mathlib.Core.Path.{refl}
use Rattle.scene_merge.proofs.Raising.{mark-second, mark-past, raisable-as}
use Rattle.scene_merge.proofs.Laying.{in-first}
use mathlib.Core.Path.{refl}
use native.Mathlib.Omega.{arith}
use Rattle.scene_merge.proofs.mark_at.Goals as goal

pub returns-then-k-first : goal.returns-then-k-first
returns-then-k-first c =
    let args = c.args in in-first args.first.now (raised_marks args.by args.second.now) args.k 0 0 c.if-k-first.true

pub raised-m-requires : goal.raised-m-requires
raised-m-requires c =
    let pre = c.requires in raisable-as c.read_marks.ensures (pre _ c.if-i-second.true)

pub returns-then-i-second : goal.returns-then-i-second
returns-then-i-second c =
    let args = c.args in mark-second args.by args.second.now args.first.now args.k (args.k - length args.first.now) ((args.k - length args.first.now) / 4) (omega (arith, c.if-k-first.false)) refl c.if-i-second.true _ c.read_marks.ensures _ c.raised-m.ensures _ refl _ c.mark_of.ensures

pub returns : goal.returns
returns c =
    let args = c.args in mark-past args.by args.second.now args.first.now args.k (args.k - length args.first.now) ((args.k - length args.first.now) / 4) (omega (arith, c.if-k-first.false)) refl c.if-i-second.false
