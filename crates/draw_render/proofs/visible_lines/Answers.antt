use Rattle.std.proofs.lemmas.Result.{err_from_is_err_and}
use Rattle.draw_render.proofs.Seeing.{unplanted, seen-lines}
use Rattle.paths.specs.Ends.{places, all_points}
use Rattle.tree_nodes.specs.Nodes.{places_of}
use Rattle.tree_split.specs.Build.{box_at}
use lib.ListN.{length, take}
use Rattle.draw_render.proofs.visible_lines.Goals as goal

pub plant-requires : goal.plant-requires
plant-requires c =
    let pre = c.requires in (pre.upto, (pre.few, pre.boxed))

pub returns-in_err-plant : goal.returns-in_err-plant
returns-in_err-plant c =
    let p = err_from_is_err_and c.from_residual.result c.from_residual.ensures.1 in rw (p.1, p.2) (let args = c.args in unplanted args.view args.numbers.now args.inverses.now args.marks.now (box_at args.boxes.now) (take args.count args.listed.now) (places_of args.node_boxes.now args.node_marks.now) (length args.order.now) (all_points args.path.now) args.starts.now (places args.out.now) (length args.begins.now) c.plant.ensures.answer c.in_err-plant.was _ _)

pub returns : goal.returns
returns c =
    let args = c.args in seen-lines args.view args.numbers.now args.inverses.now args.marks.now (box_at args.boxes.now) (take args.count args.listed.now) (places_of args.node_boxes.now args.node_marks.now) (length args.order.now) (all_points args.path.now) args.starts.now (places args.out.now) (length args.begins.now) c.plant.ensures.answer c.in_ok-plant.was _ _ _ _ _ _ c.plant.ensures.boxes_are c.plant.ensures.marks_are c.plant.ensures.order_is _ _ c.filter_paths.ensures
