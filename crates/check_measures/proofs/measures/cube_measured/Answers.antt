use Rattle.check_measures.specs.Measures.{cube_measured}
use Rattle.check_measures.proofs.measures.cube_measured.Goals as goal

pub returns-then-within_point-2 : goal.returns-then-within_point-2
unfolding cube_measured
returns-then-within_point-2 c =
    simp (← c.within_point.ensures, c.if-within_point.true, ← c.within_point-then-within_point.ensures, c.if-within_point-2.true, ← c.exceeds.ensures)

pub returns-else-within_point-2 : goal.returns-else-within_point-2
unfolding cube_measured
returns-else-within_point-2 c =
    simp (← c.within_point.ensures, c.if-within_point.true, ← c.within_point-then-within_point.ensures, c.if-within_point-2.false)

pub returns-else-within_point : goal.returns-else-within_point
unfolding cube_measured
returns-else-within_point c =
    simp (← c.within_point.ensures, c.if-within_point.false)
