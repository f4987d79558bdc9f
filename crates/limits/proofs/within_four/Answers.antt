use Rattle.limits.specs.Limits.{within_four}
use Rattle.limits.proofs.within_four.Goals as goal

pub returns-then-within-3 : goal.returns-then-within-3
unfolding within_four
returns-then-within-3 c =
    simp (← c.within.ensures, c.if-within.true, ← c.within-then-within.ensures, c.if-within-2.true, ← c.within-then-within-2.ensures, c.if-within-3.true, ← c.within-then-within-3.ensures)

pub returns-else-within-3 : goal.returns-else-within-3
unfolding within_four
returns-else-within-3 c =
    simp (← c.within.ensures, c.if-within.true, ← c.within-then-within.ensures, c.if-within-2.true, ← c.within-then-within-2.ensures, c.if-within-3.false)

pub returns-else-within-2 : goal.returns-else-within-2
unfolding within_four
returns-else-within-2 c =
    simp (← c.within.ensures, c.if-within.true, ← c.within-then-within.ensures, c.if-within-2.false)

pub returns-else-within : goal.returns-else-within
unfolding within_four
returns-else-within c =
    simp (← c.within.ensures, c.if-within.false)
