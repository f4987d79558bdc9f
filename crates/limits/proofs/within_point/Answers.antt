use Rattle.limits.specs.Limits.{within_point}
use Rattle.limits.proofs.within_point.Goals as goal

pub returns-then-within-2 : goal.returns-then-within-2
unfolding within_point
returns-then-within-2 c =
    simp (← c.within.ensures, c.if-within.true, ← c.within-then-within.ensures, c.if-within-2.true, ← c.within-then-within-2.ensures)

pub returns-else-within-2 : goal.returns-else-within-2
unfolding within_point
returns-else-within-2 c =
    simp (← c.within.ensures, c.if-within.true, ← c.within-then-within.ensures, c.if-within-2.false)

pub returns-else-within : goal.returns-else-within
unfolding within_point
returns-else-within c =
    simp (← c.within.ensures, c.if-within.false)
