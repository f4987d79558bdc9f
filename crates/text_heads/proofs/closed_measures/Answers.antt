use Rattle.text_heads.specs.Heads.{closed_measures}
use native.Mathlib.Omega.{arith}
use borrow.Author.Tests.{eq-eqb, ne_eqb}
use Rattle.text_heads.proofs.closed_measures.Goals as goal

pub returns-then-kind-eq8 : goal.returns-then-kind-eq8
unfolding closed_measures
returns-then-kind-eq8 c =
    (simp (eq-eqb _ _ c.if-kind-eq8.true), omega arith)

pub returns-then-kind-eq9 : goal.returns-then-kind-eq9
unfolding closed_measures
returns-then-kind-eq9 c =
    (simp (ne_eqb _ _ c.if-kind-eq8.false, eq-eqb _ _ c.if-kind-eq9.true), omega arith)

pub returns : goal.returns
unfolding closed_measures
returns c =
    (simp (ne_eqb _ _ c.if-kind-eq8.false, ne_eqb _ _ c.if-kind-eq9.false), omega arith)
