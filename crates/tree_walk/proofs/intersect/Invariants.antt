use Prim.Native.Nat.{◌-◌}
use Rattle.tree_walk.specs.Walks.{entry_hit, walk_on, walk_rows}
use Rattle.tree_nodes.specs.Nodes.{node_at, places_of}
use Rattle.tree_walk.proofs.Rounds.{Walking}
use Rattle.tree_walk.proofs.intersect.Given as goal

abbrev pub invariant-loop : goal.invariant-loop
invariant-loop l = Walking (walk_on (entry_hit l.numbers l.inverses l.marks l.r) l.r (node_at l.node_boxes l.node_marks) (places_of l.node_boxes l.node_marks) l.order) (walk_rows (entry_hit l.numbers l.inverses l.marks l.r) l.r l.node_boxes l.node_marks l.order) l.node_boxes l.node_marks l.many l.stack l.sp (l.many - l.counter) l.best
