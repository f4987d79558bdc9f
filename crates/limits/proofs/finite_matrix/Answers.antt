use Rattle.limits.specs.Limits.{finite_matrix}
use Rattle.limits.proofs.finite_matrix.Goals as goal

pub returns-then-finite_four-3 : goal.returns-then-finite_four-3
unfolding finite_matrix
returns-then-finite_four-3 c =
    simp (← c.finite_four.ensures, c.if-finite_four.true, ← c.finite_four-then-finite_four.ensures, c.if-finite_four-2.true, ← c.finite_four-then-finite_four-2.ensures, c.if-finite_four-3.true, ← c.finite_four-then-finite_four-3.ensures)

pub returns-else-finite_four-3 : goal.returns-else-finite_four-3
unfolding finite_matrix
returns-else-finite_four-3 c =
    simp (← c.finite_four.ensures, c.if-finite_four.true, ← c.finite_four-then-finite_four.ensures, c.if-finite_four-2.true, ← c.finite_four-then-finite_four-2.ensures, c.if-finite_four-3.false)

pub returns-else-finite_four-2 : goal.returns-else-finite_four-2
unfolding finite_matrix
returns-else-finite_four-2 c =
    simp (← c.finite_four.ensures, c.if-finite_four.true, ← c.finite_four-then-finite_four.ensures, c.if-finite_four-2.false)

pub returns-else-finite_four : goal.returns-else-finite_four
unfolding finite_matrix
returns-else-finite_four c =
    simp (← c.finite_four.ensures, c.if-finite_four.false)
