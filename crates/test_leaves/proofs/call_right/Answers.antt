use borrow.Author.Tests.{eq-eqb, ne_eqb}
use Rattle.test_leaves.specs.Records.{call_right}
use Rattle.test_leaves.proofs.call_right.Goals as goal

pub returns-then-call-eq1 : goal.returns-then-call-eq1
unfolding call_right
returns-then-call-eq1 c =
    simp (← c.word-call.ensures, eq-eqb _ _ c.if-call-eq1.true, ← c.box_test_right.ensures)

pub returns-then-call-eq2 : goal.returns-then-call-eq2
unfolding call_right
returns-then-call-eq2 c =
    simp (← c.word-call.ensures, ne_eqb _ _ c.if-call-eq1.false, eq-eqb _ _ c.if-call-eq2.true, ← c.projection_right.ensures)

pub returns-then-call-eq3 : goal.returns-then-call-eq3
unfolding call_right
returns-then-call-eq3 c =
    simp (← c.word-call.ensures, ne_eqb _ _ c.if-call-eq1.false, ne_eqb _ _ c.if-call-eq2.false, eq-eqb _ _ c.if-call-eq3.true, ← c.inverse_right.ensures)

pub returns-then-call-eq4 : goal.returns-then-call-eq4
unfolding call_right
returns-then-call-eq4 c =
    simp (← c.word-call.ensures, ne_eqb _ _ c.if-call-eq1.false, ne_eqb _ _ c.if-call-eq2.false, ne_eqb _ _ c.if-call-eq3.false, eq-eqb _ _ c.if-call-eq4.true, ← c.hit_right.ensures)

pub returns-then-call-eq5 : goal.returns-then-call-eq5
unfolding call_right
returns-then-call-eq5 c =
    simp (← c.word-call.ensures, ne_eqb _ _ c.if-call-eq1.false, ne_eqb _ _ c.if-call-eq2.false, ne_eqb _ _ c.if-call-eq3.false, ne_eqb _ _ c.if-call-eq4.false, eq-eqb _ _ c.if-call-eq5.true, ← c.box_right.ensures)

pub returns-then-call-eq6 : goal.returns-then-call-eq6
unfolding call_right
returns-then-call-eq6 c =
    simp (← c.word-call.ensures, ne_eqb _ _ c.if-call-eq1.false, ne_eqb _ _ c.if-call-eq2.false, ne_eqb _ _ c.if-call-eq3.false, ne_eqb _ _ c.if-call-eq4.false, ne_eqb _ _ c.if-call-eq5.false, eq-eqb _ _ c.if-call-eq6.true, ← c.contains_right.ensures)

pub returns-then-call-eq7 : goal.returns-then-call-eq7
unfolding call_right
returns-then-call-eq7 c =
    simp (← c.word-call.ensures, ne_eqb _ _ c.if-call-eq1.false, ne_eqb _ _ c.if-call-eq2.false, ne_eqb _ _ c.if-call-eq3.false, ne_eqb _ _ c.if-call-eq4.false, ne_eqb _ _ c.if-call-eq5.false, ne_eqb _ _ c.if-call-eq6.false, eq-eqb _ _ c.if-call-eq7.true, ← c.length_right.ensures)

pub returns-then-call-eq8 : goal.returns-then-call-eq8
unfolding call_right
returns-then-call-eq8 c =
    simp (← c.word-call.ensures, ne_eqb _ _ c.if-call-eq1.false, ne_eqb _ _ c.if-call-eq2.false, ne_eqb _ _ c.if-call-eq3.false, ne_eqb _ _ c.if-call-eq4.false, ne_eqb _ _ c.if-call-eq5.false, ne_eqb _ _ c.if-call-eq6.false, ne_eqb _ _ c.if-call-eq7.false, eq-eqb _ _ c.if-call-eq8.true, ← c.distance_right.ensures)

pub returns : goal.returns
unfolding call_right
returns c =
    simp (← c.word-call.ensures, ne_eqb _ _ c.if-call-eq1.false, ne_eqb _ _ c.if-call-eq2.false, ne_eqb _ _ c.if-call-eq3.false, ne_eqb _ _ c.if-call-eq4.false, ne_eqb _ _ c.if-call-eq5.false, ne_eqb _ _ c.if-call-eq6.false, ne_eqb _ _ c.if-call-eq7.false, ne_eqb _ _ c.if-call-eq8.false)
