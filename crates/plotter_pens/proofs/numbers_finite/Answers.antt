use Rattle.plotter_pens.specs.Pens.{numbers_finite}
use Rattle.plotter_pens.proofs.numbers_finite.Goals as goal

pub returns-then-not-point_finite : goal.returns-then-not-point_finite
unfolding numbers_finite
returns-then-not-point_finite c =
    simp (← c.point_finite.ensures, c.if-not-point_finite.true)

pub returns-then-not-paths_finite : goal.returns-then-not-paths_finite
unfolding numbers_finite
returns-then-not-paths_finite c =
    simp (← c.point_finite.ensures, c.if-not-point_finite.false, ← c.paths_finite.ensures, c.if-not-paths_finite.true)

pub returns : goal.returns
unfolding numbers_finite
returns c =
    simp (← c.point_finite.ensures, c.if-not-point_finite.false, ← c.paths_finite.ensures, c.if-not-paths_finite.false, ← c.paths_finite-2.ensures)
