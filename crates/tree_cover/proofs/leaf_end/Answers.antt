use Rattle.tree_cover.specs.Seeking.{leaf_end}
use borrow.Author.Tests.{lt-ltb, le-ltb}
use Rattle.tree_cover.proofs.leaf_end.Goals as goal

pub returns-then-first-count : goal.returns-then-first-count
unfolding leaf_end
returns-then-first-count c =
    simp (lt-ltb _ _ c.if-first-count.true)

pub returns : goal.returns
unfolding leaf_end
returns c =
    simp (le-ltb _ _ c.if-first-count.false)
