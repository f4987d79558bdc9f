use Prim.Native.Nat.{◌-◌}
use Rattle.query_scene.proofs.Copies.{copied-start}
use Rattle.query_cover.proofs.Answers.{bytes-turn, bytes-end}
use Rattle.query_cover.proofs.tell.Goals as goal

pub loop-k-init : goal.loop-k-init
loop-k-init c =
    copied-start _ _ _

pub byte_at-requires : goal.byte_at-requires
byte_at-requires c =
    let pre = c.requires in pre.0

pub loop-k-preserved : goal.loop-k-preserved
loop-k-preserved c =
    let pre = c.requires in bytes-turn _ _ _ _ _ pre.1 _ _ c.loop-k.invariant (rw c.loop-k.invariant.same c.loop-k-test.true) _ c.byte_at.ensures

pub shape_of-told : goal.shape_of-told
shape_of-told c =
    c.loop-k.invariant.same

pub returns : goal.returns
returns c =
    let pre = c.requires in bytes-end _ _ _ _ _ pre.1 _ _ c.loop-k.invariant (rw c.loop-k.invariant.same c.loop-k-test.false)
