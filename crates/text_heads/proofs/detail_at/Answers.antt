use Rattle.text_heads.specs.Heads.{detail_in}
use Rattle.text_tokens.specs.Seen.{counted_as}
use borrow.Author.Tests.{eq-eqb, ne_eqb}
use Rattle.text_heads.proofs.detail_at.Goals as goal

pub returns-then-kind-eq4 : goal.returns-then-kind-eq4
unfolding detail_in
returns-then-kind-eq4 c =
    simp (eq-eqb _ _ c.if-kind-eq4.true) c.count_at.ensures

pub returns-then-kind-eq7 : goal.returns-then-kind-eq7
unfolding detail_in
returns-then-kind-eq7 c =
    simp (ne_eqb _ _ c.if-kind-eq4.false, eq-eqb _ _ c.if-kind-eq7.true) c.count_at-then-kind-eq7.ensures

pub returns : goal.returns
unfolding detail_in counted_as
returns c =
    simp (ne_eqb _ _ c.if-kind-eq4.false, ne_eqb _ _ c.if-kind-eq7.false)
