use Rattle.test_leaves.specs.Records.{contains_right}
use Rattle.test_leaves.proofs.contains_right.Goals as goal

pub returns-then-is : goal.returns-then-is
unfolding contains_right
returns-then-is c =
    simp (← c.solid_from-x.ensures, ← c.point_at.ensures, ← c.float_at.ensures, ← c.simple_contains-i.ensures, ← c.simple_answer.ensures, ← c.is.ensures, c.if-is.true, ← c.flag.ensures, ← c.is-then-is.ensures)

pub returns-else-is : goal.returns-else-is
unfolding contains_right
returns-else-is c =
    simp (← c.solid_from-x.ensures, ← c.point_at.ensures, ← c.float_at.ensures, ← c.simple_contains-i.ensures, ← c.simple_answer.ensures, ← c.is.ensures, c.if-is.false)
