use Rattle.rows.proofs.Rows.{filled-start, filled-turn, filled-end}
use Rattle.text_drawing.proofs.clear.Goals as goal

pub loop-i-init : goal.loop-i-init
loop-i-init c =
    filled-start 0 _ _ c.requires

pub loop-i-preserved : goal.loop-i-preserved
loop-i-preserved c =
    filled-turn 0 _ _ _ _ c.loop-i.invariant (rw c.loop-i.invariant.same c.loop-i-test.true)

pub shape_of-text : goal.shape_of-text
shape_of-text c =
    c.loop-i.invariant.same

pub returns : goal.returns
returns c =
    filled-end 0 _ _ _ _ c.loop-i.invariant (rw c.loop-i.invariant.same c.loop-i-test.false)
