use Rattle.tree_walk.specs.Walks.{children_of}
use Rattle.tree_walk.proofs.sided.Goals as goal

pub returns-then-back : goal.returns-then-back
unfolding children_of
returns-then-back c =
    rw c.if-back.true

pub returns : goal.returns
unfolding children_of
returns c =
    rw c.if-back.false
