use Rattle.test_queries.proofs.Counts.{one-asked}
use Rattle.test_queries.specs.Questions.{solids_only}
use Rattle.tree_nodes.specs.Nodes.{places_of}
use native.Mathlib.Omega.{arith}
use Rattle.test_queries.proofs.one_solid.Goals as goal

pub returns : goal.returns
unfolding places_of
returns c =
    let args = c.args in (one-asked (solids_only args.numbers.now args.marks.now) _ _ _ _ _ c.ask_build-b.ensures.value.0 c.ask_build-b.ensures.node_boxes_after c.ask_build-b.ensures.node_marks_after c.ask_build-b.ensures.order_after _ _ _ _ _ c.new.ensures _ _ c.ask_intersect-h.ensures.0 c.ask_eye-e.ensures.0, omega (arith, c.ask_build-b.ensures.value.1, c.ask_intersect-h.ensures.1, c.ask_eye-e.ensures.1))
