use Rattle.plotter_pens.specs.Pens.{point_finite}
use Rattle.plotter_pens.proofs.point_finite.Goals as goal

pub returns-then-is_finite-2 : goal.returns-then-is_finite-2
unfolding point_finite
returns-then-is_finite-2 c =
    simp (← c.is_finite.ensures, c.if-is_finite.true, ← c.is_finite-then-is_finite.ensures, c.if-is_finite-2.true, ← c.is_finite-then-is_finite-2.ensures)

pub returns-else-is_finite-2 : goal.returns-else-is_finite-2
unfolding point_finite
returns-else-is_finite-2 c =
    simp (← c.is_finite.ensures, c.if-is_finite.true, ← c.is_finite-then-is_finite.ensures, c.if-is_finite-2.false)

pub returns-else-is_finite : goal.returns-else-is_finite
unfolding point_finite
returns-else-is_finite c =
    simp (← c.is_finite.ensures, c.if-is_finite.false)
