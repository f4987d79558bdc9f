use Rattle.std.proofs.lemmas.Result.{err_from_is_err_and}
use Prim.Native.Nat.{◌*◌, ◌/◌}
use lib.Seq.{length-take-le, length_front}
use Rattle.draw_render.proofs.Staging.{tail-long, tail-lines, lines-refused, stages-refused, on-sheet}
use Rattle.tree_split.specs.Build.{box_at}
use lib.ListN.{length, take, drop}
use native.Mathlib.Omega.{arith}
use mathlib.Core.Path.{sym, ◌∙◌}
use Rattle.draw_render.proofs.render_part.Goals as goal

pub overflow_mul-wide : goal.overflow_mul-wide
overflow_mul-wide c =
    let good = c.well_formed in omega (arith, good)

pub offset_bounds-listed-first : goal.offset_bounds-listed-first
offset_bounds-listed-first c =
    let pre = c.requires in omega (arith, pre.2, pre.1.few)

pub slice_bounds-all_paths-count : goal.slice_bounds-all_paths-count
slice_bounds-all_paths-count c =
    let pre = c.requires in omega (arith, pre.2, pre.1.upto)

pub slice_bounds-all_paths-start : goal.slice_bounds-all_paths-start
slice_bounds-all_paths-start c =
    let pre = c.requires in omega (arith, pre.2, pre.1.upto)

pub all_paths-requires : goal.all_paths-requires
all_paths-requires c =
    let pre = c.requires in let args = c.args in (tail-long args.first args.some args.count args.listed.now pre.1.upto pre.2, record { long = omega arith; broad = omega arith; points_fit = omega arith; starts_fit = omega arith })

pub slice_bounds-stages-end : goal.slice_bounds-stages-end
slice_bounds-stages-end c =
    (omega (arith, c.all_paths.auto.work))

pub slice_bounds-stages-end-2 : goal.slice_bounds-stages-end-2
slice_bounds-stages-end-2 c =
    sym (length-take-le _ c.all_paths.new.work (omega (arith, c.all_paths.auto.work)))

pub slice_bounds-stages-end-3 : goal.slice_bounds-stages-end-3
slice_bounds-stages-end-3 c =
    (omega (arith, c.all_paths.auto.begins))

pub slice_bounds-stages-end-4 : goal.slice_bounds-stages-end-4
slice_bounds-stages-end-4 c =
    sym (length-take-le _ c.all_paths.new.begins (omega (arith, c.all_paths.auto.begins)))

pub stages-requires : goal.stages-requires
stages-requires c =
    let pre = c.requires in (pre.0, pre.1, (c.all_paths.ensures.fits _ _ c.in_ok-n.was).0, (c.all_paths.ensures.fits _ _ c.in_ok-n.was).1)

pub transform-requires : goal.transform-requires
transform-requires c =
    (c.stages.ensures.fits _ _ c.in_ok-p.was).0

pub returns-in_err-n : goal.returns-in_err-n
returns-in_err-n c =
    let args = c.args in let p = err_from_is_err_and c.from_residual.result c.from_residual.ensures.1 in
    rw (p.1, p.2)
    (lines-refused args.threshold args.view _ _ args.chopped.now args.chopped_starts.now args.node_boxes.now args.node_marks.now args.order.now args.out.now args.begins.now args.numbers.now args.inverses.now args.marks.now args.points.now args.starts.now args.owners.now (box_at args.boxes.now) (take args.count args.listed.now) (take args.some (drop args.first args.listed.now)) c.args-2.ensures c.all_paths.new.work c.all_paths.new.begins (tail-lines _ _ _ args.first args.some args.listed.now _ _ c.all_paths.ensures) c.in_err-n.was _ _)

pub shape_of-work-in_err-p : goal.shape_of-work-in_err-p
shape_of-work-in_err-p c =
    let args = c.args in length_front c.all_paths.new.work c.stages.new.work (length args.work.now / 24 * 3) c.stages.auto.work ∙ c.all_paths.auto.work

pub shape_of-work_starts-in_err-p : goal.shape_of-work_starts-in_err-p
shape_of-work_starts-in_err-p c =
    let args = c.args in length_front c.all_paths.new.begins c.stages.new.work_starts (length args.work_starts.now / 8) c.stages.auto.work_starts ∙ c.all_paths.auto.begins

pub shape_of-chopped-in_err-p : goal.shape_of-chopped-in_err-p
shape_of-chopped-in_err-p c =
    c.stages.auto.chopped ∙ c.all_paths.auto.chopped

pub returns-in_err-p : goal.returns-in_err-p
returns-in_err-p c =
    let args = c.args in let p = err_from_is_err_and c.from_residual-in_err-p.result c.from_residual-in_err-p.ensures.1 in
    rw (p.1, p.2)
    (stages-refused args.threshold args.view _ _ args.chopped.now args.chopped_starts.now args.node_boxes.now args.node_marks.now args.order.now args.out.now args.begins.now args.numbers.now
    args.inverses.now args.marks.now args.points.now args.starts.now args.owners.now (box_at args.boxes.now) (take args.count args.listed.now) (take args.some (drop args.first args.listed.now)) c.args-2.ensures c.all_paths.new.work
    c.all_paths.new.begins (tail-lines _ _ _ args.first args.some args.listed.now _ _ c.all_paths.ensures) c.in_ok-n.was (omega (arith, c.all_paths.auto.work)) (omega (arith, c.all_paths.auto.begins))
    c.all_paths.new.chopped c.all_paths.new.chopped_starts c.all_paths.auto.chopped
    c.all_paths.auto.chopped_starts c.stages.new.out c.stages.new.begins c.stages.ensures c.in_err-p.was _ _)

pub shape_of-work : goal.shape_of-work
shape_of-work c =
    let args = c.args in length_front c.all_paths.new.work c.stages.new.work (length args.work.now / 24 * 3) c.stages.auto.work ∙ c.all_paths.auto.work

pub shape_of-work_starts : goal.shape_of-work_starts
shape_of-work_starts c =
    let args = c.args in length_front c.all_paths.new.begins c.stages.new.work_starts (length args.work_starts.now / 8) c.stages.auto.work_starts ∙ c.all_paths.auto.begins

pub shape_of-chopped : goal.shape_of-chopped
shape_of-chopped c =
    c.stages.auto.chopped ∙ c.all_paths.auto.chopped

pub shape_of-chopped_starts : goal.shape_of-chopped_starts
shape_of-chopped_starts c =
    c.stages.auto.chopped_starts ∙ c.all_paths.auto.chopped_starts

pub returns : goal.returns
returns c =
    let args = c.args in on-sheet args.threshold args.view _ _ args.chopped.now args.chopped_starts.now args.node_boxes.now args.node_marks.now args.order.now args.out.now args.begins.now args.numbers.now args.inverses.now
    args.marks.now args.points.now args.starts.now args.owners.now (box_at args.boxes.now) (take args.count args.listed.now) (take args.some (drop args.first args.listed.now)) c.args-2.ensures c.all_paths.new.work
    c.all_paths.new.begins (tail-lines _ _ _ args.first args.some args.listed.now _ _ c.all_paths.ensures) c.in_ok-n.was (omega (arith, c.all_paths.auto.work)) (omega (arith, c.all_paths.auto.begins))
    c.all_paths.new.chopped c.all_paths.new.chopped_starts c.all_paths.auto.chopped
    c.all_paths.auto.chopped_starts c.stages.new.out c.stages.new.begins c.stages.ensures c.in_ok-p.was
    c.viewport.ensures _ c.transform.ensures c.transform.auto.xs
