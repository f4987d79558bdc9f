use Rattle.tree_beams.specs.Beams.{lesser_f}
use Rattle.tree_beams.proofs.lesser.Goals as goal

pub returns-then-a-b : goal.returns-then-a-b
unfolding lesser_f
returns-then-a-b c =
    rw c.if-a-b.true

pub returns-else-a-b : goal.returns-else-a-b
unfolding lesser_f
returns-else-a-b c =
    rw c.if-a-b.false
