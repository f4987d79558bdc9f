use Rattle.tree_sort.proofs.Inserting.{Suffixed}
use Rattle.tree_sort.specs.Sort.{by_key}
use Rattle.tree_sort.proofs.insertion_sort.Given as goal

abbrev pub invariant-loop-i : goal.invariant-loop-i
invariant-loop-i l = Suffixed (by_key l.keys) l.initial.order l.order l.i
