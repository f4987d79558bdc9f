use borrow.Author.Tests.{eq-eqb, ne_eqb}
use Rattle.tree_walk.proofs.is_leaf.Goals as goal

pub returns-then-axis-eq0 : goal.returns-then-axis-eq0
returns-then-axis-eq0 c =
    simp (eq-eqb _ _ c.if-axis-eq0.true)

pub returns : goal.returns
returns c =
    simp (ne_eqb _ _ c.if-axis-eq0.false)
