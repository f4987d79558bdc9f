use Rattle.tree_sort.proofs.Inserting.{Inserting}
use Rattle.tree_sort.specs.Sort.{by_key}
use Rattle.tree_sort.proofs.insert.Given as goal

abbrev pub invariant-loop-i : goal.invariant-loop-i
invariant-loop-i l = Inserting (by_key l.keys) l.initial.order l.n l.x l.order l.i
