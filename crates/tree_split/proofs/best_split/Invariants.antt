use Rattle.tree_split.proofs.Sweeps.{Besting}
use Rattle.tree_split.specs.Build.{box_at}
use Rattle.tree_split.proofs.best_split.Given as goal

abbrev pub invariant-loop-i : goal.invariant-loop-i
invariant-loop-i l = Besting (box_at l.boxes) l.order l.n l.best l.left l.i
