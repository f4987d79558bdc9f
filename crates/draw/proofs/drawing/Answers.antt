use Rattle.std.proofs.lemmas.Result.{err_from_is_err_and}
use Rattle.draw.proofs.Drawings.{threshold-fine, scene-listed}
use Rattle.draw_ranges.proofs.Ranges.{range-low}
use Rattle.draw.proofs.Ranges.{part-refused, part-unseen, part-unsimplified, range-rendered}
use Rattle.check_parts.specs.Drawn.{drawn}
use Rattle.draw_render.specs.Slices.{places_in}
use Rattle.scene.specs.Scenes.{scene_of}
use lib.ListN.{length, take, drop}
use Prim.Native.Nat.{◌*◌, ◌/◌}
use Rattle.draw.proofs.drawing.Goals as goal

pub returns-then-not-is_ok : goal.returns-then-not-is_ok
returns-then-not-is_ok c =
    let args = c.args in part-unseen args.threshold (scene_of args.numbers.now args.marks.now args.points.now args.starts.now args.owners.now) _ c.check.ensures.verdict args.view (places_in (length args.work.now / 24 * 3) (length args.work_starts.now / 8) args.chopped.now args.chopped_starts.now args.node_boxes.now args.node_marks.now args.order.now args.out.now args.begins.now) (take args.many (drop args.first (drawn args.marks.now))) c.in_ok-n.was c.is_ok.ensures c.if-not-is_ok.true _ _

pub returns-then-not-threshold_ok : goal.returns-then-not-threshold_ok
returns-then-not-threshold_ok c =
    let args = c.args in part-unsimplified args.threshold (scene_of args.numbers.now args.marks.now args.points.now args.starts.now args.owners.now) _ c.check.ensures.verdict args.view (places_in (length args.work.now / 24 * 3) (length args.work_starts.now / 8) args.chopped.now args.chopped_starts.now args.node_boxes.now args.node_marks.now args.order.now args.out.now args.begins.now) (take args.many (drop args.first (drawn args.marks.now))) c.in_ok-n.was c.is_ok.ensures c.if-not-is_ok.false c.threshold_ok.ensures c.if-not-threshold_ok.true _ _

pub render_part-requires : goal.render_part-requires
render_part-requires c =
    let args = c.args in (threshold-fine args.threshold c.threshold_ok.ensures c.if-not-threshold_ok.false, scene-listed args.threshold (scene_of args.numbers.now args.marks.now args.points.now args.starts.now args.owners.now) _ c.check.ensures.verdict args.view (places_in (length args.work.now / 24 * 3) (length args.work_starts.now / 8) args.chopped.now args.chopped_starts.now args.node_boxes.now args.node_marks.now args.order.now args.out.now args.begins.now) c.in_ok-n.was 6144 1024 c.check.new.boxes c.check.ensures.boxes_are c.check.new.drawn c.check.ensures.drawn_are, range-low args.first args.many _ c.range_within-range.ensures)

pub returns-in_err-n : goal.returns-in_err-n
returns-in_err-n c =
    let p = err_from_is_err_and c.from_residual.result c.from_residual.ensures.1 in rw (p.1, p.2) (let args = c.args in part-refused args.threshold (scene_of args.numbers.now args.marks.now args.points.now args.starts.now args.owners.now) _ c.check.ensures.verdict args.view (places_in (length args.work.now / 24 * 3) (length args.work_starts.now / 8) args.chopped.now args.chopped_starts.now args.node_boxes.now args.node_marks.now args.order.now args.out.now args.begins.now) (take args.many (drop args.first (drawn args.marks.now))) c.in_err-n.was _ _)

pub returns : goal.returns
returns c =
    let args = c.args in range-rendered args.threshold (scene_of args.numbers.now args.marks.now args.points.now args.starts.now args.owners.now) _ c.check.ensures.verdict args.view (places_in (length args.work.now / 24 * 3) (length args.work_starts.now / 8) args.chopped.now args.chopped_starts.now args.node_boxes.now args.node_marks.now args.order.now args.out.now args.begins.now) args.first args.many c.in_ok-n.was 6144 1024 c.check.new.boxes c.check.ensures.boxes_are c.check.new.drawn c.check.ensures.drawn_are 16384 c.check.new.inverses c.check.ensures.inverses_are c.is_ok.ensures c.if-not-is_ok.false c.threshold_ok.ensures c.if-not-threshold_ok.false c.range_within-range.ensures _ _ c.render_part.ensures
