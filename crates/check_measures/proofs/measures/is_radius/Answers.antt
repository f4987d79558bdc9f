use Rattle.check_measures.specs.Measures.{is_radius}
use Rattle.check_measures.proofs.measures.is_radius.Goals as goal

pub returns-then-within : goal.returns-then-within
unfolding is_radius
returns-then-within c =
    simp (← c.within.ensures, c.if-within.true)

pub returns : goal.returns
unfolding is_radius
returns c =
    simp (← c.within.ensures, c.if-within.false)
