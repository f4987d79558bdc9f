use Rattle.geometry.specs.Vectors.{at_most_both}
use Rattle.geometry.proofs.vector.at_most_both.Goals as goal

pub returns-then-a-b : goal.returns-then-a-b
unfolding at_most_both
returns-then-a-b c =
    simp c.if-a-b.true

pub returns-else-a-b : goal.returns-else-a-b
unfolding at_most_both
returns-else-a-b c =
    simp c.if-a-b.false
