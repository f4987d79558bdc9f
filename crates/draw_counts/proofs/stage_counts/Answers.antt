use Rattle.std.proofs.lemmas.Result.{err_from_is_err_and}
use mathlib.Core.Path.{sym, ◌∙◌}
use mathlib.Core.List.{[]}
use native.Mathlib.Omega.{arith}
use lib.ListN.{length, take}
use lib.Seq.{length-take-le}
use Rattle.tree_split.specs.Build.{box_at}
use Rattle.scene_shape.specs.Shapes.{decode}
use Rattle.draw_render.proofs.Staging.{chop-refused, seen-refused}
use Rattle.draw_counts.specs.Blanks.{places_for}
use Rattle.draw_counts.proofs.Counted.{refusal-counted, blank-places, blank-starts, plain-counted, spare-long, simplified-counted}
use Rattle.draw_counts.proofs.stage_counts.Goals as goal

pub overflow_mul-end : goal.overflow_mul-end
overflow_mul-end c =
    let good = c.well_formed in let pre = c.requires in omega (arith, pre.2, good)

pub slice_bounds-seen_counts-end : goal.slice_bounds-seen_counts-end
slice_bounds-seen_counts-end c =
    let pre = c.requires in pre.2

pub slice_bounds-seen_counts-end-then-not-stepping : goal.slice_bounds-seen_counts-end-then-not-stepping
slice_bounds-seen_counts-end-then-not-stepping c =
    let args = c.args in let pre = c.requires in sym (length-take-le _ args.work.now pre.2)

pub slice_bounds-seen_counts-end-then-not-stepping-2 : goal.slice_bounds-seen_counts-end-then-not-stepping-2
slice_bounds-seen_counts-end-then-not-stepping-2 c =
    let pre = c.requires in pre.3

pub slice_bounds-seen_counts-end-then-not-stepping-3 : goal.slice_bounds-seen_counts-end-then-not-stepping-3
slice_bounds-seen_counts-end-then-not-stepping-3 c =
    let args = c.args in let pre = c.requires in sym (length-take-le _ args.work_starts.now pre.3)

pub seen_counts-requires : goal.seen_counts-requires
seen_counts-requires c =
    let pre = c.requires in pre.1

pub returns-then-not-stepping : goal.returns-then-not-stepping
returns-then-not-stepping c =
    let args = c.args in let pre = c.requires in let w = places_for (length args.work.now) (length args.work_starts.now) args.chopped.now args.chopped_starts.now args.node_boxes.now args.node_marks.now args.order.now args.out args.begins in
    plain-counted args.threshold args.view w (blank-places args.out) (blank-starts args.begins) (decode 8 args.numbers.now args.inverses.now args.marks.now) (box_at args.boxes.now) (take args.count args.listed.now) args.work.now args.work_starts.now args.n args.m pre.2 c.stepping.ensures c.if-not-stepping.true c.seen_counts.ensures

pub slice_bounds-chop_lines-end : goal.slice_bounds-chop_lines-end
slice_bounds-chop_lines-end c =
    let pre = c.requires in pre.2

pub slice_bounds-chop_lines-end-2 : goal.slice_bounds-chop_lines-end-2
slice_bounds-chop_lines-end-2 c =
    let args = c.args in let pre = c.requires in sym (length-take-le _ args.work.now pre.2)

pub slice_bounds-chop_lines-end-3 : goal.slice_bounds-chop_lines-end-3
slice_bounds-chop_lines-end-3 c =
    let pre = c.requires in pre.3

pub slice_bounds-chop_lines-end-4 : goal.slice_bounds-chop_lines-end-4
slice_bounds-chop_lines-end-4 c =
    let args = c.args in let pre = c.requires in sym (length-take-le _ args.work_starts.now pre.3)

pub overflow_mul-last : goal.overflow_mul-last
overflow_mul-last c =
    let good = c.well_formed in omega (arith, (c.chop_lines.ensures.fits _ _ c.in_ok-p.was).0, good)

pub slice_bounds-visible_lines-end : goal.slice_bounds-visible_lines-end
slice_bounds-visible_lines-end c =
    (c.chop_lines.ensures.fits _ _ c.in_ok-p.was).0

pub slice_bounds-visible_lines-end-2 : goal.slice_bounds-visible_lines-end-2
slice_bounds-visible_lines-end-2 c =
    sym (length-take-le _ c.chop_lines.new.out (c.chop_lines.ensures.fits _ _ c.in_ok-p.was).0)

pub slice_bounds-visible_lines-end-3 : goal.slice_bounds-visible_lines-end-3
slice_bounds-visible_lines-end-3 c =
    (c.chop_lines.ensures.fits _ _ c.in_ok-p.was).1

pub slice_bounds-visible_lines-end-4 : goal.slice_bounds-visible_lines-end-4
slice_bounds-visible_lines-end-4 c =
    sym (length-take-le _ c.chop_lines.new.begins (c.chop_lines.ensures.fits _ _ c.in_ok-p.was).1)

pub visible_lines-requires : goal.visible_lines-requires
visible_lines-requires c =
    let pre = c.requires in pre.1

pub overflow_mul-z : goal.overflow_mul-z
overflow_mul-z c =
    omega (arith, (c.visible_lines.ensures.fits _ _ c.in_ok-x.was).0, c.well_formed)

pub slice_bounds-simplified_counts-end : goal.slice_bounds-simplified_counts-end
slice_bounds-simplified_counts-end c =
    (c.visible_lines.ensures.fits _ _ c.in_ok-x.was).0

pub slice_bounds-simplified_counts-end-2 : goal.slice_bounds-simplified_counts-end-2
slice_bounds-simplified_counts-end-2 c =
    sym (length-take-le _ c.visible_lines.new.out (c.visible_lines.ensures.fits _ _ c.in_ok-x.was).0)

pub slice_bounds-simplified_counts-end-3 : goal.slice_bounds-simplified_counts-end-3
slice_bounds-simplified_counts-end-3 c =
    (c.visible_lines.ensures.fits _ _ c.in_ok-x.was).1

pub slice_bounds-simplified_counts-end-4 : goal.slice_bounds-simplified_counts-end-4
slice_bounds-simplified_counts-end-4 c =
    sym (length-take-le _ c.visible_lines.new.begins (c.visible_lines.ensures.fits _ _ c.in_ok-x.was).1)

pub simplified_counts-requires : goal.simplified_counts-requires
simplified_counts-requires c =
    let args = c.args in let pre = c.requires in let w = places_for (length args.work.now) (length args.work_starts.now) args.chopped.now args.chopped_starts.now args.node_boxes.now args.node_marks.now args.order.now args.out args.begins in (
      spare-long args.threshold args.view w (blank-places args.out) (blank-starts args.begins) (decode 8 args.numbers.now args.inverses.now args.marks.now) (box_at args.boxes.now) (take args.count args.listed.now) args.work.now args.work_starts.now args.n args.m pre.2 c.stepping.ensures c.if-not-stepping.false c.args-2.ensures
          c.chop_lines.new.out c.chop_lines.new.begins c.chop_lines.ensures c.in_ok-p.was c.visible_lines.new.out c.visible_lines.new.begins c.visible_lines.ensures c.in_ok-x.was,
      pre.0,
    )

pub returns-in_err-p : goal.returns-in_err-p
returns-in_err-p c =
    let args = c.args in let pre = c.requires in let p = err_from_is_err_and c.from_residual.result c.from_residual.ensures.1 in
    rw (p.1, p.2)
    (let w = places_for (length args.work.now) (length args.work_starts.now) args.chopped.now args.chopped_starts.now args.node_boxes.now args.node_marks.now args.order.now args.out args.begins in
    refusal-counted (chop-refused args.threshold args.view w (decode 8 args.numbers.now args.inverses.now args.marks.now) (box_at args.boxes.now) (take args.count args.listed.now) args.work.now args.work_starts.now args.n args.m pre.2 c.stepping.ensures c.if-not-stepping.false c.args-2.ensures
    c.chop_lines.new.out c.chop_lines.new.begins c.chop_lines.ensures c.in_err-p.was [] []))

pub returns-in_err-x : goal.returns-in_err-x
returns-in_err-x c =
    let args = c.args in let pre = c.requires in let p = err_from_is_err_and c.from_residual-in_err-x.result c.from_residual-in_err-x.ensures.1 in
    rw (p.1, p.2)
    (let w = places_for (length args.work.now) (length args.work_starts.now) args.chopped.now args.chopped_starts.now args.node_boxes.now args.node_marks.now args.order.now args.out args.begins in
    refusal-counted (seen-refused args.threshold args.view w (decode 8 args.numbers.now args.inverses.now args.marks.now) (box_at args.boxes.now) (take args.count args.listed.now) args.work.now args.work_starts.now args.n args.m pre.2 c.stepping.ensures c.if-not-stepping.false c.args-2.ensures
    c.chop_lines.new.out c.chop_lines.new.begins c.chop_lines.ensures c.in_ok-p.was c.visible_lines.new.out c.visible_lines.new.begins c.visible_lines.ensures c.in_err-x.was [] []))

pub shape_of-chopped : goal.shape_of-chopped
shape_of-chopped c =
    c.simplified_counts.auto.spare ∙ c.chop_lines.auto.out

pub shape_of-chopped_starts : goal.shape_of-chopped_starts
shape_of-chopped_starts c =
    c.chop_lines.auto.begins

pub returns : goal.returns
returns c =
    let args = c.args in let pre = c.requires in let w = places_for (length args.work.now) (length args.work_starts.now) args.chopped.now args.chopped_starts.now args.node_boxes.now args.node_marks.now args.order.now args.out args.begins in
    simplified-counted args.threshold args.view w (blank-places args.out) (blank-starts args.begins) (decode 8 args.numbers.now args.inverses.now args.marks.now) (box_at args.boxes.now) (take args.count args.listed.now) args.work.now args.work_starts.now args.n args.m pre.2 c.stepping.ensures c.if-not-stepping.false c.args-2.ensures
    c.chop_lines.new.out c.chop_lines.new.begins c.chop_lines.ensures c.in_ok-p.was c.visible_lines.new.out c.visible_lines.new.begins c.visible_lines.ensures c.in_ok-x.was c.simplified_counts.ensures
