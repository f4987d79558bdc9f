use Rattle.text_heads.specs.Heads as Heads
use native.Mathlib.Omega.{arith}
use borrow.Author.Tests.{eq-eqb, ne_eqb}
use Rattle.text_heads.proofs.measures.Goals as goal

pub returns-then-kind-eq1 : goal.returns-then-kind-eq1
unfolding Heads.measures
returns-then-kind-eq1 c =
    (simp (eq-eqb _ _ c.if-kind-eq1.true), omega arith)

pub returns-then-kind-eq2 : goal.returns-then-kind-eq2
unfolding Heads.measures
returns-then-kind-eq2 c =
    (simp (ne_eqb _ _ c.if-kind-eq1.false, eq-eqb _ _ c.if-kind-eq2.true), omega arith)

pub returns-then-kind-eq3 : goal.returns-then-kind-eq3
unfolding Heads.measures
returns-then-kind-eq3 c =
    (simp (ne_eqb _ _ c.if-kind-eq1.false, ne_eqb _ _ c.if-kind-eq2.false, eq-eqb _ _ c.if-kind-eq3.true), omega arith)

pub returns-then-kind-eq4 : goal.returns-then-kind-eq4
unfolding Heads.measures
returns-then-kind-eq4 c =
    (simp (ne_eqb _ _ c.if-kind-eq1.false, ne_eqb _ _ c.if-kind-eq2.false, ne_eqb _ _ c.if-kind-eq3.false, eq-eqb _ _ c.if-kind-eq4.true), omega arith)

pub returns-then-kind-eq5 : goal.returns-then-kind-eq5
unfolding Heads.measures
returns-then-kind-eq5 c =
    (simp (ne_eqb _ _ c.if-kind-eq1.false, ne_eqb _ _ c.if-kind-eq2.false, ne_eqb _ _ c.if-kind-eq3.false, ne_eqb _ _ c.if-kind-eq4.false, eq-eqb _ _ c.if-kind-eq5.true), omega arith)

pub returns-then-kind-eq6 : goal.returns-then-kind-eq6
unfolding Heads.measures
returns-then-kind-eq6 c =
    (simp (ne_eqb _ _ c.if-kind-eq1.false, ne_eqb _ _ c.if-kind-eq2.false, ne_eqb _ _ c.if-kind-eq3.false, ne_eqb _ _ c.if-kind-eq4.false, ne_eqb _ _ c.if-kind-eq5.false, eq-eqb _ _ c.if-kind-eq6.true), omega arith)

pub returns : goal.returns
unfolding Heads.measures
returns c =
    (simp (ne_eqb _ _ c.if-kind-eq1.false, ne_eqb _ _ c.if-kind-eq2.false, ne_eqb _ _ c.if-kind-eq3.false, ne_eqb _ _ c.if-kind-eq4.false, ne_eqb _ _ c.if-kind-eq5.false, ne_eqb _ _ c.if-kind-eq6.false) c.closed_measures.ensures.0, c.closed_measures.ensures.1)
