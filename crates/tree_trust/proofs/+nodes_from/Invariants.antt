use Rattle.tree_trust.proofs.+nodes_from.Given as goal

abbrev pub decreases-nodes_from : goal.decreases-nodes_from
decreases-nodes_from l = l.depth
