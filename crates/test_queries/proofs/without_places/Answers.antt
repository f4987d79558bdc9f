use Rattle.test_queries.proofs.Counts.{sums}
use Rattle.test_queries.specs.Questions.{without_places}
use Rattle.tree_nodes.specs.Nodes.{places_of}
use native.Mathlib.Omega.{arith}
use Rattle.test_queries.proofs.without_places.Goals as goal

pub returns : goal.returns
unfolding without_places places_of
returns c =
    (sums (sums (sums c.ask_build-b.ensures.value.0 c.ask_intersect-h.ensures.0) c.ask_visible-v.ensures.0) c.ask_occluder-o.ensures.0, omega (arith, c.ask_build-b.ensures.value.1, c.ask_intersect-h.ensures.1, c.ask_visible-v.ensures.1, c.ask_occluder-o.ensures.1))
