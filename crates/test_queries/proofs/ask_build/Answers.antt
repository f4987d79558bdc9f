use Rattle.test_queries.proofs.Counts.{build-asked}
use Rattle.test_queries.specs.Questions.{solids_only}
use Rattle.test_queries.proofs.ask_build.Goals as goal

pub returns-clause-value : goal.returns-clause-value
returns-clause-value c =
    (build-asked (solids_only c.args.numbers.now c.args.marks.now) _ _ _ _ _ _ _ _ _ _ _ c.build-b.ensures.answer c.build-b.ensures.boxes_are c.build-b.ensures.marks_are c.build-b.ensures.order_is c.differ_built.ensures.0 c.differ_built.ensures.1).0

pub returns-clause-node_boxes_after : goal.returns-clause-node_boxes_after
returns-clause-node_boxes_after c =
    (build-asked (solids_only c.args.numbers.now c.args.marks.now) _ _ _ _ _ _ _ _ _ _ _ c.build-b.ensures.answer c.build-b.ensures.boxes_are c.build-b.ensures.marks_are c.build-b.ensures.order_is c.differ_built.ensures.0 c.differ_built.ensures.1).1.0

pub returns-clause-node_marks_after : goal.returns-clause-node_marks_after
returns-clause-node_marks_after c =
    (build-asked (solids_only c.args.numbers.now c.args.marks.now) _ _ _ _ _ _ _ _ _ _ _ c.build-b.ensures.answer c.build-b.ensures.boxes_are c.build-b.ensures.marks_are c.build-b.ensures.order_is c.differ_built.ensures.0 c.differ_built.ensures.1).1.1.0

pub returns-clause-order_after : goal.returns-clause-order_after
returns-clause-order_after c =
    (build-asked (solids_only c.args.numbers.now c.args.marks.now) _ _ _ _ _ _ _ _ _ _ _ c.build-b.ensures.answer c.build-b.ensures.boxes_are c.build-b.ensures.marks_are c.build-b.ensures.order_is c.differ_built.ensures.0 c.differ_built.ensures.1).1.1.1
