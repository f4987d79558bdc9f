use Rattle.tree_trust.proofs.Looking.{counted-whole}
use Rattle.tree_trust.proofs.trusted.Goals as goal

pub returns : goal.returns
returns c =
    counted-whole _ _ _ _ c.places-many.ensures c.nodes_from.ensures

pub nodes_from-requires : goal.nodes_from-requires
nodes_from-requires c =
    c.places-many.ensures
