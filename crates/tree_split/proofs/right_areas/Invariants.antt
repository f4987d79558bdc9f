use Rattle.tree_split.proofs.Sweeps.{Sweeping}
use Rattle.tree_split.specs.Build.{box_at}
use Rattle.tree_split.proofs.right_areas.Given as goal

abbrev pub invariant-loop-i : goal.invariant-loop-i
invariant-loop-i l = Sweeping (box_at l.boxes) l.order l.initial.right l.right l.i l.b
