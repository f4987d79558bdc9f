use Rattle.check_measures.specs.Measures.{cone_measured}
use Rattle.check_measures.proofs.measures.cone_measured.Goals as goal

pub returns-then-within : goal.returns-then-within
unfolding cone_measured
returns-then-within c =
    simp (← c.is_radius.ensures, c.if-is_radius.true, ← c.within.ensures, c.if-within.true)

pub returns-else-within : goal.returns-else-within
unfolding cone_measured
returns-else-within c =
    simp (← c.is_radius.ensures, c.if-is_radius.true, ← c.within.ensures, c.if-within.false)

pub returns-else-is_radius : goal.returns-else-is_radius
unfolding cone_measured
returns-else-is_radius c =
    simp (← c.is_radius.ensures, c.if-is_radius.false)
