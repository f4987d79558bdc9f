use Rattle.tree_walk.specs.Walks.{entry_hit}
use Rattle.tree_walk.proofs.entry_hit.Goals as goal

pub returns : goal.returns
unfolding entry_hit
returns c =
    c.entry_hit.ensures
