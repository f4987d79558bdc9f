use Rattle.test_leaves.specs.Records.{hit_right}
use Rattle.test_leaves.proofs.hit_right.Goals as goal

pub returns-then-same : goal.returns-then-same
unfolding hit_right
returns-then-same c =
    simp (← c.solid_from-x.ensures, ← c.ray_at.ensures, ← c.simple_hit-h.ensures, ← c.simple_answer.ensures, ← c.is.ensures, c.if-is.true, ← c.word.ensures, ← c.same.ensures, c.if-same.true, ← c.flag.ensures, ← c.is-then-same.ensures)

pub returns-else-same : goal.returns-else-same
unfolding hit_right
returns-else-same c =
    simp (← c.solid_from-x.ensures, ← c.ray_at.ensures, ← c.simple_hit-h.ensures, ← c.simple_answer.ensures, ← c.is.ensures, c.if-is.true, ← c.word.ensures, ← c.same.ensures, c.if-same.false)

pub returns-else-is : goal.returns-else-is
unfolding hit_right
returns-else-is c =
    simp (← c.solid_from-x.ensures, ← c.ray_at.ensures, ← c.simple_hit-h.ensures, ← c.simple_answer.ensures, ← c.is.ensures, c.if-is.false)
