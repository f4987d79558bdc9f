use Rattle.tree_beams.specs.Beams.{greater_f}
use Rattle.tree_beams.proofs.greater.Goals as goal

pub returns-then-a-b : goal.returns-then-a-b
unfolding greater_f
returns-then-a-b c =
    rw c.if-a-b.true

pub returns-else-a-b : goal.returns-else-a-b
unfolding greater_f
returns-else-a-b c =
    rw c.if-a-b.false
