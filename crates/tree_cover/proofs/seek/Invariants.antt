use Rattle.tree_nodes.specs.Nodes.{node_at, places_of}
use Rattle.tree_walk.specs.Walks.{entry_hit}
use Rattle.tree_walk.proofs.Rounds.{Walking, piled}
use Rattle.tree_cover.specs.Seeking.{seek_on, seek_rows}
use Rattle.tree_cover.proofs.Turns.{Leafing}
use Rattle.tree_cover.proofs.seek.Given as goal

abbrev pub invariant-loop-at : goal.invariant-loop-at
invariant-loop-at l = Leafing l.far (entry_hit l.numbers l.inverses l.marks l.r) l.order (seek_on l.far (entry_hit l.numbers l.inverses l.marks l.r) l.r (node_at l.node_boxes l.node_marks) (places_of l.node_boxes l.node_marks) l.order l.rounds (piled l.stack l.sp))
    (seek_rows l.far (entry_hit l.numbers l.inverses l.marks l.r) l.r l.node_boxes l.node_marks l.order) l.last l.at l.best

abbrev pub invariant-walk : goal.invariant-walk
invariant-walk l = Walking (seek_on l.far (entry_hit l.numbers l.inverses l.marks l.r) l.r (node_at l.node_boxes l.node_marks) (places_of l.node_boxes l.node_marks) l.order) (seek_rows l.far (entry_hit l.numbers l.inverses l.marks l.r) l.r l.node_boxes l.node_marks l.order)
    l.node_boxes l.node_marks l.many l.stack l.sp l.rounds l.best

abbrev pub decreases-walk : goal.decreases-walk
decreases-walk l = l.rounds
