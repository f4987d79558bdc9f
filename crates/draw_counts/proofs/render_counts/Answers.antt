use Rattle.std.proofs.lemmas.Result.{err_from_is_err_and}
use mathlib.Core.Path.{sym, ◌∙◌}
use mathlib.Core.List.{[]}
use Prim.Native.Nat.{◌*◌, ◌/◌}
use native.Mathlib.Omega.{arith}
use lib.ListN.{length, take}
use lib.Seq.{length-take-le, length_front}
use Rattle.tree_split.specs.Build.{box_at}
use Rattle.draw_render.proofs.Staging.{lines-refused}
use Rattle.draw_counts.specs.Blanks.{blank, blank_starts}
use Rattle.draw_counts.proofs.Counted.{whole-ends, refusal-counted, sheet-counted}
use Rattle.draw_counts.proofs.render_counts.Goals as goal

pub overflow_mul-wide : goal.overflow_mul-wide
overflow_mul-wide c =
    let good = c.well_formed in omega (arith, good)

pub all_paths-requires : goal.all_paths-requires
all_paths-requires c =
    let pre = c.requires in (pre.1.upto, record { long = omega arith; broad = omega arith; points_fit = omega arith; starts_fit = omega arith })

pub slice_bounds-stage_counts-end : goal.slice_bounds-stage_counts-end
slice_bounds-stage_counts-end c =
    omega (arith, c.all_paths.auto.work)

pub slice_bounds-stage_counts-end-2 : goal.slice_bounds-stage_counts-end-2
slice_bounds-stage_counts-end-2 c =
    sym (length-take-le _ c.all_paths.new.work (omega (arith, c.all_paths.auto.work)))

pub slice_bounds-stage_counts-end-3 : goal.slice_bounds-stage_counts-end-3
slice_bounds-stage_counts-end-3 c =
    omega (arith, c.all_paths.auto.begins)

pub slice_bounds-stage_counts-end-4 : goal.slice_bounds-stage_counts-end-4
slice_bounds-stage_counts-end-4 c =
    sym (length-take-le _ c.all_paths.new.begins (omega (arith, c.all_paths.auto.begins)))

pub stage_counts-requires : goal.stage_counts-requires
stage_counts-requires c =
    let pre = c.requires in (pre.0, pre.1, (c.all_paths.ensures.fits _ _ c.in_ok-n.was).0, (c.all_paths.ensures.fits _ _ c.in_ok-n.was).1)

pub returns-in_err-n : goal.returns-in_err-n
returns-in_err-n c =
    let p = err_from_is_err_and c.from_residual.result c.from_residual.ensures.1 in rw (p.1, p.2) (let args = c.args in refusal-counted (whole-ends _ _ _ _ _ _ (lines-refused args.threshold args.view _ _ args.chopped.now args.chopped_starts.now args.node_boxes.now args.node_marks.now args.order.now (blank args.out) (blank_starts args.begins)
    args.numbers.now args.inverses.now args.marks.now args.points.now args.starts.now args.owners.now (box_at args.boxes.now) (take args.count args.listed.now) (take args.count args.listed.now)
    c.args-2.ensures c.all_paths.new.work c.all_paths.new.begins c.all_paths.ensures c.in_err-n.was [] [])))

pub shape_of-work : goal.shape_of-work
shape_of-work c =
    let args = c.args in length_front c.all_paths.new.work c.stage_counts.new.work (length args.work.now / 24 * 3) c.stage_counts.auto.work ∙ c.all_paths.auto.work

pub shape_of-work_starts : goal.shape_of-work_starts
shape_of-work_starts c =
    let args = c.args in length_front c.all_paths.new.begins c.stage_counts.new.work_starts (length args.work_starts.now / 8) c.stage_counts.auto.work_starts ∙ c.all_paths.auto.begins

pub shape_of-chopped : goal.shape_of-chopped
shape_of-chopped c =
    c.stage_counts.auto.chopped ∙ c.all_paths.auto.chopped

pub shape_of-chopped_starts : goal.shape_of-chopped_starts
shape_of-chopped_starts c =
    c.stage_counts.auto.chopped_starts ∙ c.all_paths.auto.chopped_starts

pub returns : goal.returns
returns c =
    let args = c.args in sheet-counted args.threshold args.view _ _ args.chopped.now args.chopped_starts.now args.node_boxes.now args.node_marks.now args.order.now (blank args.out) (blank_starts args.begins)
    args.numbers.now args.inverses.now args.marks.now args.points.now args.starts.now args.owners.now (box_at args.boxes.now) (take args.count args.listed.now)
    c.args-2.ensures c.all_paths.new.work c.all_paths.new.begins c.all_paths.ensures c.in_ok-n.was
    (omega (arith, c.all_paths.auto.work)) (omega (arith, c.all_paths.auto.begins)) c.all_paths.new.chopped c.all_paths.new.chopped_starts c.all_paths.auto.chopped c.all_paths.auto.chopped_starts c.stage_counts.ensures
