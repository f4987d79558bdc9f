use Rattle.limits.specs.Limits.{finite_four}
use Rattle.limits.proofs.finite_four.Goals as goal

pub returns-then-is_finite-3 : goal.returns-then-is_finite-3
unfolding finite_four
returns-then-is_finite-3 c =
    simp (← c.is_finite.ensures, c.if-is_finite.true, ← c.is_finite-then-is_finite.ensures, c.if-is_finite-2.true, ← c.is_finite-then-is_finite-2.ensures, c.if-is_finite-3.true, ← c.is_finite-then-is_finite-3.ensures)

pub returns-else-is_finite-3 : goal.returns-else-is_finite-3
unfolding finite_four
returns-else-is_finite-3 c =
    simp (← c.is_finite.ensures, c.if-is_finite.true, ← c.is_finite-then-is_finite.ensures, c.if-is_finite-2.true, ← c.is_finite-then-is_finite-2.ensures, c.if-is_finite-3.false)

pub returns-else-is_finite-2 : goal.returns-else-is_finite-2
unfolding finite_four
returns-else-is_finite-2 c =
    simp (← c.is_finite.ensures, c.if-is_finite.true, ← c.is_finite-then-is_finite.ensures, c.if-is_finite-2.false)

pub returns-else-is_finite : goal.returns-else-is_finite
unfolding finite_four
returns-else-is_finite c =
    simp (← c.is_finite.ensures, c.if-is_finite.false)
