use Rattle.geometry.specs.Boxes.{ordered}
use Rattle.geometry.proofs.bounding_box.ordered.Goals as goal

pub returns-then-a-b : goal.returns-then-a-b
unfolding ordered
returns-then-a-b c =
    simp c.if-a-b.true

pub returns-else-a-b : goal.returns-else-a-b
unfolding ordered
returns-else-a-b c =
    simp c.if-a-b.false
