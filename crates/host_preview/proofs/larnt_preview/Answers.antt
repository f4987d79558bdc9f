use Rattle.std.proofs.Common.{◌*◌, ◌/◌, length}
use Rattle.scene.specs.Scenes.{scene_of}
use Rattle.draw_counts.specs.Blanks.{places_for}
use Rattle.host_preview.proofs.PreviewLaws.{preview-so}
use Rattle.host_preview.proofs.larnt_preview.Goals as goal

pub returns-clause-preview_told : goal.returns-clause-preview_told
returns-clause-preview_told c =
    let args = c.args in let s = scene_of args.numbers.now args.marks.now args.points.now args.starts.now args.owners.now in
    let w = places_for (length args.work.now / 24 * 3) (length args.work_starts.now / 8) args.chopped.now args.chopped_starts.now args.node_boxes.now args.node_marks.now args.order.now args.out_len args.begins_len in
    preview-so args.threshold s w c.view_from.ensures c.preview-c.ensures.value c.answer_number.ensures c.point_count.ensures c.path_count.ensures
