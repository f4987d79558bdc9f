use borrow.Author.Tests.{eq-eqb, ne_eqb, lt-ltb, le-ltb}
use Rattle.tree_trust.specs.Trust.{joined_of}
use Rattle.tree_trust.proofs.joined.Goals as goal

pub returns-then-a-eq0 : goal.returns-then-a-eq0
unfolding joined_of
returns-then-a-eq0 c =
    simp (eq-eqb _ _ c.if-a-eq0.true)

pub returns-then-b-eq0 : goal.returns-then-b-eq0
unfolding joined_of
returns-then-b-eq0 c =
    simp (ne_eqb _ _ c.if-a-eq0.false, eq-eqb _ _ c.if-b-eq0.true)

pub returns-then-a-b : goal.returns-then-a-b
unfolding joined_of
returns-then-a-b c =
    simp (ne_eqb _ _ c.if-a-eq0.false, ne_eqb _ _ c.if-b-eq0.false, lt-ltb _ _ c.if-a-b.true)

pub returns : goal.returns
unfolding joined_of
returns c =
    simp (ne_eqb _ _ c.if-a-eq0.false, ne_eqb _ _ c.if-b-eq0.false, le-ltb _ _ c.if-a-b.false)
