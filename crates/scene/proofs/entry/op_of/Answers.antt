use borrow.Author.Tests.{eq-eqb, ne_eqb}
use Rattle.scene.specs.Entries.{op_of}
use Rattle.scene.proofs.entry.op_of.Goals as goal

pub returns-then-detail-eq0 : goal.returns-then-detail-eq0
unfolding op_of
returns-then-detail-eq0 c =
    rw (eq-eqb _ _ c.if-detail-eq0.true)

pub returns-then-detail-eq1 : goal.returns-then-detail-eq1
unfolding op_of
returns-then-detail-eq1 c =
    rw (ne_eqb _ _ c.if-detail-eq0.false, eq-eqb _ _ c.if-detail-eq1.true)

pub returns-then-detail-eq2 : goal.returns-then-detail-eq2
unfolding op_of
returns-then-detail-eq2 c =
    rw (ne_eqb _ _ c.if-detail-eq0.false, ne_eqb _ _ c.if-detail-eq1.false, eq-eqb _ _ c.if-detail-eq2.true)

pub returns : goal.returns
unfolding op_of
returns c =
    rw (ne_eqb _ _ c.if-detail-eq0.false, ne_eqb _ _ c.if-detail-eq1.false, ne_eqb _ _ c.if-detail-eq2.false)
