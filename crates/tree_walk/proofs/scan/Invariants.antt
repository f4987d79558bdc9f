use mathlib.Core.Path.{◌≡◌}
use lib.ListN.{length}
use Rattle.tree_walk.specs.Walks.{entry_hit}
use Rattle.tree_walk.proofs.Turns.{Scanned}
use Rattle.tree_walk.proofs.scan.Given as goal

abbrev pub invariant-loop-k : goal.invariant-loop-k
invariant-loop-k l = Scanned (entry_hit l.numbers l.inverses l.marks l.r) l.order l.first l.count l.initial.b l.b l.k × (l.n ≡ length l.order)
