use Rattle.limits.specs.Limits.{within_matrix}
use Rattle.limits.proofs.within_matrix.Goals as goal

pub returns-then-within_four-3 : goal.returns-then-within_four-3
unfolding within_matrix
returns-then-within_four-3 c =
    simp (← c.within_four.ensures, c.if-within_four.true, ← c.within_four-then-within_four.ensures, c.if-within_four-2.true, ← c.within_four-then-within_four-2.ensures, c.if-within_four-3.true, ← c.within_four-then-within_four-3.ensures)

pub returns-else-within_four-3 : goal.returns-else-within_four-3
unfolding within_matrix
returns-else-within_four-3 c =
    simp (← c.within_four.ensures, c.if-within_four.true, ← c.within_four-then-within_four.ensures, c.if-within_four-2.true, ← c.within_four-then-within_four-2.ensures, c.if-within_four-3.false)

pub returns-else-within_four-2 : goal.returns-else-within_four-2
unfolding within_matrix
returns-else-within_four-2 c =
    simp (← c.within_four.ensures, c.if-within_four.true, ← c.within_four-then-within_four.ensures, c.if-within_four-2.false)

pub returns-else-within_four : goal.returns-else-within_four
unfolding within_matrix
returns-else-within_four c =
    simp (← c.within_four.ensures, c.if-within_four.false)
