use Rattle.tree_split.proofs.Sweeps.{Hulled}
use Rattle.tree_split.specs.Build.{box_at, middle_box}
use Rattle.tree_split.proofs.spread.Given as goal

abbrev pub invariant-loop-i : goal.invariant-loop-i
invariant-loop-i l = Hulled (λ i. middle_box (box_at l.boxes i)) l.order l.b l.i
