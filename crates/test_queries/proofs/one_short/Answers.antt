use Rattle.test_queries.specs.Questions.{one_short}
use Rattle.tree_nodes.specs.Nodes.{places_of}
use Rattle.test_queries.proofs.Counts.{sums}
use native.Mathlib.Omega.{arith}
use Rattle.test_queries.proofs.one_short.Goals as goal

pub overflow_add-result : goal.overflow_add-result
overflow_add-result c =
    omega (arith, c.ask_build-a.ensures.value.1, c.ask_build-b.ensures.value.1)

pub returns : goal.returns
unfolding one_short places_of
returns c =
    (sums c.ask_build-a.ensures.value.0 c.ask_build-b.ensures.value.0, omega (arith, c.ask_build-a.ensures.value.1, c.ask_build-b.ensures.value.1))
