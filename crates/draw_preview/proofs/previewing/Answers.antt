use Rattle.std.proofs.lemmas.Result.{err_from_is_err_and}
use mathlib.Core.List.{[]}
use Prim.Native.Nat.{◌*◌, ◌/◌}
use lib.ListN.{length}
use Rattle.scene.specs.Scenes.{scene_of}
use Rattle.draw.proofs.Drawings.{threshold-fine, scene-refused, view-refused, threshold-refused, scene-listed, drawn-as}
use Rattle.draw_counts.specs.Blanks.{places_for}
use Rattle.draw_counts.proofs.Counted.{as-counted, refusal-counted}
use Rattle.draw_preview.proofs.previewing.Goals as goal

pub returns-then-not-is_ok : goal.returns-then-not-is_ok
returns-then-not-is_ok c =
    let args = c.args in let s = scene_of args.numbers.now args.marks.now args.points.now args.starts.now args.owners.now in
    let w = places_for (length args.work.now / 24 * 3) (length args.work_starts.now / 8) args.chopped.now args.chopped_starts.now args.node_boxes.now args.node_marks.now args.order.now args.out args.begins in
    refusal-counted (view-refused args.threshold s _ c.check.ensures.verdict args.view w c.in_ok-n.was c.is_ok.ensures c.if-not-is_ok.true [] [])

pub returns-then-not-threshold_ok : goal.returns-then-not-threshold_ok
returns-then-not-threshold_ok c =
    let args = c.args in let s = scene_of args.numbers.now args.marks.now args.points.now args.starts.now args.owners.now in
    let w = places_for (length args.work.now / 24 * 3) (length args.work_starts.now / 8) args.chopped.now args.chopped_starts.now args.node_boxes.now args.node_marks.now args.order.now args.out args.begins in
    refusal-counted (threshold-refused args.threshold s _ c.check.ensures.verdict args.view w c.in_ok-n.was c.is_ok.ensures c.if-not-is_ok.false c.threshold_ok.ensures c.if-not-threshold_ok.true [] [])

pub render_counts-requires : goal.render_counts-requires
render_counts-requires c =
    let args = c.args in let s = scene_of args.numbers.now args.marks.now args.points.now args.starts.now args.owners.now in
    let w = places_for (length args.work.now / 24 * 3) (length args.work_starts.now / 8) args.chopped.now args.chopped_starts.now args.node_boxes.now args.node_marks.now args.order.now args.out args.begins in (
      threshold-fine args.threshold c.threshold_ok.ensures c.if-not-threshold_ok.false,
      scene-listed args.threshold s _ c.check.ensures.verdict args.view w c.in_ok-n.was 6144 1024 c.check.new.boxes c.check.ensures.boxes_are c.check.new.drawn c.check.ensures.drawn_are,
    )

pub returns-in_err-n : goal.returns-in_err-n
returns-in_err-n c =
    let p = err_from_is_err_and c.from_residual.result c.from_residual.ensures.1 in rw (p.1, p.2) (let args = c.args in let s = scene_of args.numbers.now args.marks.now args.points.now args.starts.now args.owners.now in
    let w = places_for (length args.work.now / 24 * 3) (length args.work_starts.now / 8) args.chopped.now args.chopped_starts.now args.node_boxes.now args.node_marks.now args.order.now args.out args.begins in
    refusal-counted (scene-refused args.threshold s _ c.check.ensures.verdict args.view w c.in_err-n.was [] []))

pub returns : goal.returns
returns c =
    let args = c.args in let s = scene_of args.numbers.now args.marks.now args.points.now args.starts.now args.owners.now in
    let w = places_for (length args.work.now / 24 * 3) (length args.work_starts.now / 8) args.chopped.now args.chopped_starts.now args.node_boxes.now args.node_marks.now args.order.now args.out args.begins in
    as-counted (drawn-as args.threshold s _ c.check.ensures.verdict args.view w c.in_ok-n.was 6144 1024 c.check.new.boxes c.check.ensures.boxes_are c.check.new.drawn c.check.ensures.drawn_are
    16384 c.check.new.inverses c.check.ensures.inverses_are c.is_ok.ensures c.if-not-is_ok.false c.threshold_ok.ensures c.if-not-threshold_ok.false) c.render_counts.ensures
