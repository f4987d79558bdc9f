use borrow.Author.Tests.{eq-eqb, ne_eqb}
use Rattle.scene.specs.Entries.{striped}
use Rattle.scene.proofs.entry.is_striped.Goals as goal

pub returns-then-kind-eq2 : goal.returns-then-kind-eq2
unfolding striped
returns-then-kind-eq2 c =
    rw (eq-eqb _ _ c.if-kind-eq2.true)

pub returns-then-kind-eq3 : goal.returns-then-kind-eq3
unfolding striped
returns-then-kind-eq3 c =
    rw (ne_eqb _ _ c.if-kind-eq2.false, eq-eqb _ _ c.if-kind-eq3.true)

pub returns-then-kind-eq8 : goal.returns-then-kind-eq8
unfolding striped
returns-then-kind-eq8 c =
    rw (ne_eqb _ _ c.if-kind-eq2.false, ne_eqb _ _ c.if-kind-eq3.false, eq-eqb _ _ c.if-kind-eq8.true)

pub returns : goal.returns
unfolding striped
returns c =
    rw (ne_eqb _ _ c.if-kind-eq2.false, ne_eqb _ _ c.if-kind-eq3.false, ne_eqb _ _ c.if-kind-eq8.false)
