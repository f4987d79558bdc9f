use borrow.Author.Tests.{eq-eqb, ne_eqb}
use Rattle.tree_walk.specs.Walks.{backward}
use Rattle.tree_walk.proofs.backward.Goals as goal

pub returns-then-axis-eq1 : goal.returns-then-axis-eq1
unfolding backward
returns-then-axis-eq1 c =
    simp (eq-eqb _ _ c.if-axis-eq1.true)

pub returns-then-axis-eq2 : goal.returns-then-axis-eq2
unfolding backward
returns-then-axis-eq2 c =
    simp (ne_eqb _ _ c.if-axis-eq1.false, eq-eqb _ _ c.if-axis-eq2.true)

pub returns : goal.returns
unfolding backward
returns c =
    simp (ne_eqb _ _ c.if-axis-eq1.false, ne_eqb _ _ c.if-axis-eq2.false)
