use Rattle.query_scene.proofs.Answers.{build-refused, build-is}
use Rattle.query_scene.proofs.Plants.{accepted-count, accepted-many, accepted-fits}
use Rattle.check_scene.proofs.Accepted.{left_is, own-drawn}
use Rattle.check_scene.specs.Checks.{boxes_of}
use Rattle.scene.specs.Scenes.{scene_of}
use Rattle.check_parts.specs.Drawn.{drawn}
use Rattle.tree_nodes.specs.Nodes.{places_of}
use Rattle.floats.specs.Arith.{zero_f}
use lib.ListN.{length, take}
use native.Mathlib.Omega.{arith}
use mathlib.Core.Path.{sym, ◌∙◌}
use Rattle.query_scene.proofs.build.Goals as goal

pub plant-requires : goal.plant-requires
plant-requires c =
    let args = c.args in let scene = scene_of args.numbers.now args.marks.now args.points.now args.starts.now args.owners.now in
    (omega (arith, accepted-many scene _ (sym c.check-v.ensures.verdict ∙ c.in-Ok.is)), (accepted-many scene _ (sym c.check-v.ensures.verdict ∙ c.in-Ok.is), rw (own-drawn scene _ (sym c.check-v.ensures.verdict ∙ c.in-Ok.is) 1024 c.check-v.new.drawn (left_is 0 _ c.in-Ok.is 1024 (drawn args.marks.now) c.check-v.ensures.drawn_are) (accepted-count scene _ (sym c.check-v.ensures.verdict ∙ c.in-Ok.is))) (accepted-fits scene _ (sym c.check-v.ensures.verdict ∙ c.in-Ok.is) c.check-v.new.boxes (omega arith) 6144 (left_is zero_f _ c.in-Ok.is 6144 (boxes_of scene) c.check-v.ensures.boxes_are))))

pub returns-in-Err : goal.returns-in-Err
returns-in-Err c =
    let args = c.args in build-refused _ _ (sym c.check-v.ensures.verdict ∙ c.in-Err.is) (places_of args.node_boxes.now args.node_marks.now) (length args.node_boxes.now) (length args.node_marks.now) (length args.order.now) c.clear_all.ensures.node_boxes_after c.clear_all.ensures.node_marks_after c.clear_all.ensures.order_after

pub returns-in-Ok : goal.returns-in-Ok
returns-in-Ok c =
    let args = c.args in let scene = scene_of args.numbers.now args.marks.now args.points.now args.starts.now args.owners.now in
    build-is scene _ (sym c.check-v.ensures.verdict ∙ c.in-Ok.is) (places_of args.node_boxes.now args.node_marks.now) (length args.node_boxes.now) (length args.node_marks.now) (length args.order.now) c.check-v.new.boxes (take c.in-Ok.n c.check-v.new.drawn) (left_is zero_f _ c.in-Ok.is 6144 (boxes_of scene) c.check-v.ensures.boxes_are) (own-drawn scene _ (sym c.check-v.ensures.verdict ∙ c.in-Ok.is) 1024 c.check-v.new.drawn (left_is 0 _ c.in-Ok.is 1024 (drawn args.marks.now) c.check-v.ensures.drawn_are) (accepted-count scene _ (sym c.check-v.ensures.verdict ∙ c.in-Ok.is))) c.plant.ensures
