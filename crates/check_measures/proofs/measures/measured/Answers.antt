use Rattle.check_measures.specs.Measures.{simple_measured, measured}
use borrow.Author.Tests.{eq-eqb, ne_eqb}
use mathlib.Core.Path.{◌∙◌}
use Rattle.check_measures.proofs.measures.measured.Goals as goal

pub returns-then-m-eq6 : goal.returns-then-m-eq6
unfolding measured
returns-then-m-eq6 c =
    c.within_matrix.ensures ∙ rw (eq-eqb _ _ c.if-m-eq6.true, c.matrix_of-placing.ensures)

pub returns-in-Some : goal.returns-in-Some
unfolding measured simple_measured
returns-in-Some c =
    c.solid_measured.ensures ∙ rw (ne_eqb _ _ c.if-m-eq6.false, ← c.simple_of-s.ensures, c.in-Some.is)

pub returns-in-None : goal.returns-in-None
unfolding measured simple_measured
returns-in-None c =
    rw (ne_eqb _ _ c.if-m-eq6.false, ← c.simple_of-s.ensures, c.in-None.is)
