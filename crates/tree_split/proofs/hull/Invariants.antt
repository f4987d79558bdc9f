use Rattle.tree_split.proofs.Sweeps.{Hulled}
use Rattle.tree_split.specs.Build.{box_at}
use Rattle.tree_split.proofs.hull.Given as goal

abbrev pub invariant-loop-i : goal.invariant-loop-i
invariant-loop-i l = Hulled (box_at l.boxes) l.order l.b l.i
