use Prim.Native.Nat.{◌-◌}
use Rattle.tree_walk.specs.Walks.{entry_hit}
use Rattle.tree_glance.specs.Glances.{LastCover}
use Rattle.tree_glance.proofs.Turns.{Turn}
use Rattle.tree_glance.proofs.look.Given as goal

abbrev pub invariant-loop : goal.invariant-loop
invariant-loop l = Turn (entry_hit l.numbers l.inverses l.marks l.b.ray) l.b l.distance l.calm l.node_boxes l.node_marks l.order (2048 - l.counter) l.i l.stack l.sp l.hid × LastCover l.node_boxes l.node_marks l.order l.cover l.stack
