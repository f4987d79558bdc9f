use mathlib.Core.Path.{◌≡◌}
use lib.ListN.{length}
use Rattle.tree_walk.specs.Walks.{entry_hit}
use Rattle.tree_glance.proofs.Spots.{Spotting}
use Rattle.tree_glance.proofs.spot.Given as goal

abbrev pub invariant-loop-k : goal.invariant-loop-k
invariant-loop-k l = Spotting l.distance l.calm (entry_hit l.numbers l.inverses l.marks l.b.ray) l.order l.first l.count l.found l.k × (l.n ≡ length l.order)
