use Rattle.tree_sort.proofs.Sorting.{Copied}
use Rattle.tree_sort.proofs.copy.Given as goal

abbrev pub invariant-loop-i : goal.invariant-loop-i
invariant-loop-i l = Copied l.from l.n l.initial.to l.to l.i
