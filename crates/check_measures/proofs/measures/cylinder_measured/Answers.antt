use Rattle.check_measures.specs.Measures.{cylinder_measured}
use Rattle.check_measures.proofs.measures.cylinder_measured.Goals as goal

pub returns-then-within-2 : goal.returns-then-within-2
unfolding cylinder_measured
returns-then-within-2 c =
    simp (← c.is_radius.ensures, c.if-is_radius.true, ← c.within.ensures, c.if-within.true, ← c.within-then-within.ensures, c.if-within-2.true)

pub returns-else-within-2 : goal.returns-else-within-2
unfolding cylinder_measured
returns-else-within-2 c =
    simp (← c.is_radius.ensures, c.if-is_radius.true, ← c.within.ensures, c.if-within.true, ← c.within-then-within.ensures, c.if-within-2.false)

pub returns-else-within : goal.returns-else-within
unfolding cylinder_measured
returns-else-within c =
    simp (← c.is_radius.ensures, c.if-is_radius.true, ← c.within.ensures, c.if-within.false)

pub returns-else-is_radius : goal.returns-else-is_radius
unfolding cylinder_measured
returns-else-is_radius c =
    simp (← c.is_radius.ensures, c.if-is_radius.false)
