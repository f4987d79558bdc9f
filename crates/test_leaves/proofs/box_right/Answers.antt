use Rattle.test_leaves.specs.Records.{box_right}
use Rattle.test_leaves.proofs.box_right.Goals as goal

pub returns-then-is : goal.returns-then-is
unfolding box_right
returns-then-is c =
    simp (← c.solid_from-x.ensures, ← c.simple_box-b.ensures, ← c.simple_answer.ensures, ← c.is.ensures, c.if-is.true, ← c.all_same.ensures)

pub returns-else-is : goal.returns-else-is
unfolding box_right
returns-else-is c =
    simp (← c.solid_from-x.ensures, ← c.simple_box-b.ensures, ← c.simple_answer.ensures, ← c.is.ensures, c.if-is.false)
