use Rattle.tree_walk.specs.Walks.{nearer}
use Rattle.tree_walk.proofs.nearer.Goals as goal

pub returns-then-h-best : goal.returns-then-h-best
unfolding nearer
returns-then-h-best c =
    rw c.if-h-best.true

pub returns : goal.returns
unfolding nearer
returns c =
    rw c.if-h-best.false
