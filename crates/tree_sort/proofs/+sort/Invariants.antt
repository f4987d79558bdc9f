use Rattle.std.proofs.Common.{length}
use Rattle.tree_sort.proofs.+sort.Given as goal

abbrev pub decreases-sort : goal.decreases-sort
decreases-sort l = length l.order.now
