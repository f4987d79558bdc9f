use Rattle.draw_arcs.proofs.+pieces.Given as goal

abbrev pub decreases-pieces : goal.decreases-pieces
decreases-pieces l = l.depth
