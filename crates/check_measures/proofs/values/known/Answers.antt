use borrow.Author.Tests.{eq-eqb, ne_eqb}
use mathlib.Core.Path.{◌∙◌}
use Rattle.check_measures.specs.Values.{known}
use Rattle.check_measures.proofs.values.known.Goals as goal

pub returns-then-m-eq4 : goal.returns-then-m-eq4
unfolding known
returns-then-m-eq4 c =
    c.is_stripes.ensures ∙ rw (eq-eqb _ _ c.if-m-eq4.true)

pub returns-then-m-eq7 : goal.returns-then-m-eq7
unfolding known
returns-then-m-eq7 c =
    rw (ne_eqb _ _ c.if-m-eq4.false, eq-eqb _ _ c.if-m-eq7.true)

pub returns : goal.returns
unfolding known
returns c =
    c.is_kind.ensures ∙ rw (ne_eqb _ _ c.if-m-eq4.false, ne_eqb _ _ c.if-m-eq7.false)
