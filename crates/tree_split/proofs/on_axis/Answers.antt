use Rattle.tree_split.specs.Build.{on_axis}
use borrow.Author.Tests.{lt-ltb, le-ltb, eq-eqb, ne_eqb}
use Rattle.tree_split.proofs.on_axis.Goals as goal

pub returns-then-axis-lt2 : goal.returns-then-axis-lt2
unfolding on_axis
returns-then-axis-lt2 c =
    simp (lt-ltb _ _ c.if-axis-lt2.true)

pub returns-then-axis-eq2 : goal.returns-then-axis-eq2
unfolding on_axis
returns-then-axis-eq2 c =
    simp (le-ltb _ _ c.if-axis-lt2.false, eq-eqb _ _ c.if-axis-eq2.true)

pub returns : goal.returns
unfolding on_axis
returns c =
    simp (le-ltb _ _ c.if-axis-lt2.false, ne_eqb _ _ c.if-axis-eq2.false)
