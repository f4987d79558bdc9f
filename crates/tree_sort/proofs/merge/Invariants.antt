use Prim.Native.Nat.{◌+◌, ◌-◌}
use Rattle.tree_sort.specs.Sort.{by_key}
use Rattle.tree_sort.proofs.Sorting.{Merging}
use Rattle.tree_sort.proofs.merge.Given as goal

abbrev pub invariant-loop-i : goal.invariant-loop-i
invariant-loop-i l = Merging (by_key l.keys) l.initial.order l.m l.work l.n l.order l.i l.j l.k

abbrev pub decreases-loop-i : goal.decreases-loop-i
decreases-loop-i l = l.m + l.n - (l.i + l.j)
