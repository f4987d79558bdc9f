use borrow.Author.Tests.{eq-eqb, ne_eqb, le-leb, lt-leb}
use Rattle.scene.specs.Entries.{parts_of}
use Rattle.scene.proofs.entry.parts_of.Goals as goal

pub returns-then-m-eq6 : goal.returns-then-m-eq6
unfolding parts_of
returns-then-m-eq6 c =
    simp (eq-eqb _ _ c.if-m-eq6.true)

pub returns-then-m-le3 : goal.returns-then-m-le3
unfolding parts_of
returns-then-m-le3 c =
    simp (ne_eqb _ _ c.if-m-eq6.false, eq-eqb _ _ c.if-m-eq7.true, le-leb _ _ c.if-m-le3.true, ← c.op_of.ensures)

pub returns-else-m-le3 : goal.returns-else-m-le3
unfolding parts_of
returns-else-m-le3 c =
    simp (ne_eqb _ _ c.if-m-eq6.false, eq-eqb _ _ c.if-m-eq7.true, lt-leb _ _ c.if-m-le3.false)

pub returns-else-m-eq7 : goal.returns-else-m-eq7
unfolding parts_of
returns-else-m-eq7 c =
    simp (ne_eqb _ _ c.if-m-eq6.false, ne_eqb _ _ c.if-m-eq7.false)
