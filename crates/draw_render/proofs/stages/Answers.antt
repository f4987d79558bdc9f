use Rattle.std.proofs.lemmas.Result.{err_from_is_err_and}
use Rattle.draw_render.proofs.Staging.{plain, chop-refused, seen-refused, simplified}
use Rattle.draw_render.specs.Slices.{places_in}
use Rattle.tree_split.specs.Build.{box_at}
use Rattle.scene_shape.specs.Shapes.{decode}
use lib.Seq.{length-take-le}
use lib.ListN.{length, take}
use native.Mathlib.Omega.{arith}
use mathlib.Core.Path.{sym}
use Rattle.draw_render.proofs.stages.Goals as goal

pub overflow_mul-end : goal.overflow_mul-end
overflow_mul-end c =
    let good = c.well_formed in let pre = c.requires in omega (arith, pre.2, good)

pub slice_bounds-visible_lines-end : goal.slice_bounds-visible_lines-end
slice_bounds-visible_lines-end c =
    let pre = c.requires in pre.2

pub slice_bounds-visible_lines-end-then-not-stepping : goal.slice_bounds-visible_lines-end-then-not-stepping
slice_bounds-visible_lines-end-then-not-stepping c =
    let args = c.args in let pre = c.requires in sym (length-take-le _ args.work.now pre.2)

pub slice_bounds-visible_lines-end-then-not-stepping-2 : goal.slice_bounds-visible_lines-end-then-not-stepping-2
slice_bounds-visible_lines-end-then-not-stepping-2 c =
    let pre = c.requires in pre.3

pub slice_bounds-visible_lines-end-then-not-stepping-3 : goal.slice_bounds-visible_lines-end-then-not-stepping-3
slice_bounds-visible_lines-end-then-not-stepping-3 c =
    let args = c.args in let pre = c.requires in sym (length-take-le _ args.work_starts.now pre.3)

pub visible_lines-requires : goal.visible_lines-requires
visible_lines-requires c =
    let pre = c.requires in pre.1

pub returns-then-not-stepping : goal.returns-then-not-stepping
returns-then-not-stepping c =
    let args = c.args in let pre = c.requires in plain args.threshold args.view (places_in (length args.work.now) (length args.work_starts.now) args.chopped.now args.chopped_starts.now args.node_boxes.now args.node_marks.now args.order.now args.out.now args.begins.now) (decode 8 args.numbers.now args.inverses.now args.marks.now) (box_at args.boxes.now) (take args.count args.listed.now) args.work.now args.work_starts.now args.n args.m pre.2 c.stepping.ensures c.if-not-stepping.true _ _ c.visible_lines.ensures

pub slice_bounds-chop_lines-end : goal.slice_bounds-chop_lines-end
slice_bounds-chop_lines-end c =
    let pre = c.requires in pre.2

pub slice_bounds-chop_lines-end-2 : goal.slice_bounds-chop_lines-end-2
slice_bounds-chop_lines-end-2 c =
    let args = c.args in let pre = c.requires in sym (length-take-le _ args.work.now pre.2)

pub slice_bounds-chop_lines-end-3 : goal.slice_bounds-chop_lines-end-3
slice_bounds-chop_lines-end-3 c =
    let pre = c.requires in pre.3

pub slice_bounds-chop_lines-end-4 : goal.slice_bounds-chop_lines-end-4
slice_bounds-chop_lines-end-4 c =
    let args = c.args in let pre = c.requires in sym (length-take-le _ args.work_starts.now pre.3)

pub overflow_mul-last : goal.overflow_mul-last
overflow_mul-last c =
    let good = c.well_formed in omega (arith, (c.chop_lines.ensures.fits _ _ c.in_ok-p.was).0, good)

pub slice_bounds-visible_lines-end-2 : goal.slice_bounds-visible_lines-end-2
slice_bounds-visible_lines-end-2 c =
    (c.chop_lines.ensures.fits _ _ c.in_ok-p.was).0

pub slice_bounds-visible_lines-end-3 : goal.slice_bounds-visible_lines-end-3
slice_bounds-visible_lines-end-3 c =
    sym (length-take-le _ c.chop_lines.new.out (c.chop_lines.ensures.fits _ _ c.in_ok-p.was).0)

pub slice_bounds-visible_lines-end-4 : goal.slice_bounds-visible_lines-end-4
slice_bounds-visible_lines-end-4 c =
    (c.chop_lines.ensures.fits _ _ c.in_ok-p.was).1

pub slice_bounds-visible_lines-end-5 : goal.slice_bounds-visible_lines-end-5
slice_bounds-visible_lines-end-5 c =
    sym (length-take-le _ c.chop_lines.new.begins (c.chop_lines.ensures.fits _ _ c.in_ok-p.was).1)

pub visible_lines-requires-2 : goal.visible_lines-requires-2
visible_lines-requires-2 c =
    let pre = c.requires in pre.1

pub overflow_mul-z : goal.overflow_mul-z
overflow_mul-z c =
    omega (arith, (c.visible_lines-2.ensures.fits _ _ c.in_ok-x.was).0, c.well_formed)

pub slice_bounds-simplify_lines-end : goal.slice_bounds-simplify_lines-end
slice_bounds-simplify_lines-end c =
    (c.visible_lines-2.ensures.fits _ _ c.in_ok-x.was).0

pub slice_bounds-simplify_lines-end-2 : goal.slice_bounds-simplify_lines-end-2
slice_bounds-simplify_lines-end-2 c =
    sym (length-take-le _ c.visible_lines-2.new.out (c.visible_lines-2.ensures.fits _ _ c.in_ok-x.was).0)

pub slice_bounds-simplify_lines-end-3 : goal.slice_bounds-simplify_lines-end-3
slice_bounds-simplify_lines-end-3 c =
    (c.visible_lines-2.ensures.fits _ _ c.in_ok-x.was).1

pub slice_bounds-simplify_lines-end-4 : goal.slice_bounds-simplify_lines-end-4
slice_bounds-simplify_lines-end-4 c =
    sym (length-take-le _ c.visible_lines-2.new.begins (c.visible_lines-2.ensures.fits _ _ c.in_ok-x.was).1)

pub simplify_lines-requires : goal.simplify_lines-requires
simplify_lines-requires c =
    let pre = c.requires in pre.0

pub returns-in_err-p : goal.returns-in_err-p
returns-in_err-p c =
    let args = c.args in let pre = c.requires in let p = err_from_is_err_and c.from_residual.result c.from_residual.ensures.1 in
    rw (p.1, p.2)
    (chop-refused args.threshold args.view (places_in (length args.work.now) (length args.work_starts.now) args.chopped.now args.chopped_starts.now args.node_boxes.now args.node_marks.now args.order.now args.out.now args.begins.now) (decode 8 args.numbers.now args.inverses.now args.marks.now) (box_at args.boxes.now) (take args.count args.listed.now) args.work.now args.work_starts.now args.n args.m pre.2 c.stepping.ensures c.if-not-stepping.false c.args-2.ensures c.chop_lines.new.out c.chop_lines.new.begins c.chop_lines.ensures c.in_err-p.was _ _)

pub returns-in_err-x : goal.returns-in_err-x
returns-in_err-x c =
    let args = c.args in let pre = c.requires in let p = err_from_is_err_and c.from_residual-in_err-x.result c.from_residual-in_err-x.ensures.1 in
    rw (p.1, p.2)
    (seen-refused args.threshold args.view (places_in (length args.work.now) (length args.work_starts.now) args.chopped.now args.chopped_starts.now args.node_boxes.now args.node_marks.now args.order.now args.out.now args.begins.now) (decode 8 args.numbers.now args.inverses.now args.marks.now) (box_at args.boxes.now) (take args.count args.listed.now) args.work.now args.work_starts.now args.n args.m pre.2 c.stepping.ensures c.if-not-stepping.false c.args-2.ensures c.chop_lines.new.out c.chop_lines.new.begins c.chop_lines.ensures c.in_ok-p.was _ _ c.visible_lines-2.ensures c.in_err-x.was _ _)

pub shape_of-chopped : goal.shape_of-chopped
shape_of-chopped c =
    c.chop_lines.auto.out

pub shape_of-chopped_starts : goal.shape_of-chopped_starts
shape_of-chopped_starts c =
    c.chop_lines.auto.begins

pub returns : goal.returns
returns c =
    let args = c.args in let pre = c.requires in simplified args.threshold args.view (places_in (length args.work.now) (length args.work_starts.now) args.chopped.now args.chopped_starts.now args.node_boxes.now args.node_marks.now args.order.now args.out.now args.begins.now) (decode 8 args.numbers.now args.inverses.now args.marks.now) (box_at args.boxes.now) (take args.count args.listed.now) args.work.now args.work_starts.now args.n args.m pre.2 c.stepping.ensures c.if-not-stepping.false c.args-2.ensures c.chop_lines.new.out c.chop_lines.new.begins c.chop_lines.ensures c.in_ok-p.was c.visible_lines-2.new.out c.visible_lines-2.new.begins c.visible_lines-2.ensures c.in_ok-x.was _ _ c.simplify_lines.ensures
