use lib.Seq.{length-take-le}
use mathlib.Core.Path.{sym}
use native.Mathlib.Omega.{arith}
use Rattle.text_drawing.proofs.Ends.{refused-text, drawn-text, drawn-fits}
use Rattle.text_drawing.proofs.put_text.Goals as goal

pub overflow_mul-a : goal.overflow_mul-a
overflow_mul-a c =
    let args = c.args in let good = c.well_formed in let w = drawn-fits args.points.now args.starts.now c.in-Ok.n c.in-Ok.m c.lesser-a.result c.lesser-b.result c.lesser-a.ensures c.lesser-b.ensures in omega (arith, w.0, good)

pub slice_bounds-put_drawing-end : goal.slice_bounds-put_drawing-end
slice_bounds-put_drawing-end c =
    let args = c.args in sym (length-take-le _ _ (drawn-fits args.points.now args.starts.now c.in-Ok.n c.in-Ok.m c.lesser-a.result c.lesser-b.result c.lesser-a.ensures c.lesser-b.ensures).0)

pub slice_bounds-put_drawing-end-in-Ok : goal.slice_bounds-put_drawing-end-in-Ok
slice_bounds-put_drawing-end-in-Ok c =
    let args = c.args in sym (length-take-le _ _ (drawn-fits args.points.now args.starts.now c.in-Ok.n c.in-Ok.m c.lesser-a.result c.lesser-b.result c.lesser-a.ensures c.lesser-b.ensures).1)

pub shape_of-text-in-Err : goal.shape_of-text-in-Err
shape_of-text-in-Err c =
    c.put_refused.auto.text

pub returns-in-Err : goal.returns-in-Err
returns-in-Err c =
    let args = c.args in refused-text args.points.now args.starts.now c.in-Err.is c.number.ensures c.put_refused.ensures

pub shape_of-text-in-Ok : goal.shape_of-text-in-Ok
shape_of-text-in-Ok c =
    c.put_drawing.auto.text

pub returns-in-Ok : goal.returns-in-Ok
returns-in-Ok c =
    let args = c.args in drawn-text args.points.now args.starts.now _ _ _ _ c.lesser-a.ensures c.lesser-b.ensures c.in-Ok.is c.put_drawing.ensures
