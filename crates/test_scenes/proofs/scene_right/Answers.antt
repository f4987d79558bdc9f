use mathlib.Core.Path.{sym}
use lib.Seq.{length-take-le}
use Rattle.test_scenes.proofs.Slices.{room, scene-right-is}
use Rattle.test_scenes.specs.Records.{scene_right}
use native.Mathlib.Omega.{arith}
use Rattle.test_scenes.proofs.scene_right.Goals as goal

pub returns-then-not-slices_fit : goal.returns-then-not-slices_fit
unfolding scene_right
returns-then-not-slices_fit c =
    simp (← c.slices_fit.ensures, c.if-not-slices_fit.true)

pub fill_floats-requires : goal.fill_floats-requires
fill_floats-requires c =
    let pre = c.requires in omega (arith, (room _ c.slices_fit.ensures c.if-not-slices_fit.false).numbers, c.word-a.ensures, pre)

pub fill_marks-requires : goal.fill_marks-requires
fill_marks-requires c =
    let pre = c.requires in omega (arith, (room _ c.slices_fit.ensures c.if-not-slices_fit.false).marks, c.word-b.ensures, pre)

pub fill_floats-requires-2 : goal.fill_floats-requires-2
fill_floats-requires-2 c =
    let pre = c.requires in omega (arith, (room _ c.slices_fit.ensures c.if-not-slices_fit.false).points, c.word-c.ensures, pre)

pub fill_counts-requires : goal.fill_counts-requires
fill_counts-requires c =
    let pre = c.requires in omega (arith, (room _ c.slices_fit.ensures c.if-not-slices_fit.false).starts, c.word-d.ensures, pre)

pub fill_marks-requires-2 : goal.fill_marks-requires-2
fill_marks-requires-2 c =
    let pre = c.requires in omega (arith, (room _ c.slices_fit.ensures c.if-not-slices_fit.false).owners, c.word-e.ensures, pre)

pub slice_bounds-numbers-end : goal.slice_bounds-numbers-end
slice_bounds-numbers-end c =
    omega (arith, (room _ c.slices_fit.ensures c.if-not-slices_fit.false).numbers, c.word-a.ensures, c.fill_floats.auto)

pub slice_bounds-answers_right-end : goal.slice_bounds-answers_right-end
slice_bounds-answers_right-end c =
    sym (length-take-le _ _ (omega (arith, (room _ c.slices_fit.ensures c.if-not-slices_fit.false).numbers, c.word-a.ensures, c.fill_floats.auto)))

pub slice_bounds-marks-end : goal.slice_bounds-marks-end
slice_bounds-marks-end c =
    omega (arith, (room _ c.slices_fit.ensures c.if-not-slices_fit.false).marks, c.word-b.ensures, c.fill_marks.auto)

pub slice_bounds-answers_right-end-2 : goal.slice_bounds-answers_right-end-2
slice_bounds-answers_right-end-2 c =
    sym (length-take-le _ _ (omega (arith, (room _ c.slices_fit.ensures c.if-not-slices_fit.false).marks, c.word-b.ensures, c.fill_marks.auto)))

pub slice_bounds-points-end : goal.slice_bounds-points-end
slice_bounds-points-end c =
    omega (arith, (room _ c.slices_fit.ensures c.if-not-slices_fit.false).points, c.word-c.ensures, c.fill_floats-2.auto)

pub slice_bounds-answers_right-end-3 : goal.slice_bounds-answers_right-end-3
slice_bounds-answers_right-end-3 c =
    sym (length-take-le _ _ (omega (arith, (room _ c.slices_fit.ensures c.if-not-slices_fit.false).points, c.word-c.ensures, c.fill_floats-2.auto)))

pub slice_bounds-starts-end : goal.slice_bounds-starts-end
slice_bounds-starts-end c =
    omega (arith, (room _ c.slices_fit.ensures c.if-not-slices_fit.false).starts, c.word-d.ensures, c.fill_counts.auto)

pub slice_bounds-answers_right-end-4 : goal.slice_bounds-answers_right-end-4
slice_bounds-answers_right-end-4 c =
    sym (length-take-le _ _ (omega (arith, (room _ c.slices_fit.ensures c.if-not-slices_fit.false).starts, c.word-d.ensures, c.fill_counts.auto)))

pub slice_bounds-owners-end : goal.slice_bounds-owners-end
slice_bounds-owners-end c =
    omega (arith, (room _ c.slices_fit.ensures c.if-not-slices_fit.false).owners, c.word-e.ensures, c.fill_marks-2.auto)

pub slice_bounds-answers_right-end-5 : goal.slice_bounds-answers_right-end-5
slice_bounds-answers_right-end-5 c =
    sym (length-take-le _ _ (omega (arith, (room _ c.slices_fit.ensures c.if-not-slices_fit.false).owners, c.word-e.ensures, c.fill_marks-2.auto)))

pub answers_right-requires : goal.answers_right-requires
answers_right-requires c =
    let pre = c.requires in pre

pub returns : goal.returns
returns c =
    scene-right-is _ _ _ _ _ _ c.slices_fit.ensures c.if-not-slices_fit.false c.word-a.ensures c.fill_floats.ensures c.word-b.ensures c.fill_marks.ensures c.word-c.ensures c.fill_floats-2.ensures c.word-d.ensures c.fill_counts.ensures c.word-e.ensures c.fill_marks-2.ensures c.answers_right.ensures
