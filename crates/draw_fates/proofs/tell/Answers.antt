use Rattle.query_scene.proofs.Copies.{copied-start}
use Rattle.draw_fates.proofs.Ways.{turn, end}
use Rattle.draw_fates.proofs.tell.Goals as goal

pub loop-k-init : goal.loop-k-init
loop-k-init c =
    copied-start _ _ _

pub word_at-requires : goal.word_at-requires
word_at-requires c =
    let pre = c.requires in pre.0

pub loop-k-preserved : goal.loop-k-preserved
loop-k-preserved c =
    let pre = c.requires in turn _ _ _ _ _ pre.1 _ _ c.loop-k.invariant (rw c.loop-k.invariant.same c.loop-k-test.true) _ c.word_at.ensures

pub shape_of-told : goal.shape_of-told
shape_of-told c =
    c.loop-k.invariant.same

pub returns : goal.returns
returns c =
    let pre = c.requires in end _ _ _ _ _ pre.1 _ _ c.loop-k.invariant (rw c.loop-k.invariant.same c.loop-k-test.false)
