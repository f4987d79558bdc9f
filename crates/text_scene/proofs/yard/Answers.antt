use Rattle.text_scene.proofs.Answers.{yard-long, yard-empty, yard-unseen, yard-more, yard-no, yard-read}
use Rattle.text_scene.proofs.Texts.{line-lies}
use Rattle.text_forms.proofs.Forms.{within-next}
use Rattle.text_scene.specs.Readings.{reading_as, WithinReading}
use native.Mathlib.Omega.{arith}
use Rattle.text_scene.proofs.yard.Goals as goal

pub returns-then-text-gt65536 : goal.returns-then-text-gt65536
unfolding reading_as WithinReading
returns-then-text-gt65536 c =
    record { owners_after = yard-long _ c.if-text-gt65536.true; within_reading = tt }

pub next_line-requires : goal.next_line-requires
next_line-requires c =
    c.if-text-gt65536.false

pub returns-in_err-a : goal.returns-in_err-a
unfolding reading_as WithinReading
returns-in_err-a c =
    record { owners_after = rw c.from_residual.ensures (yard-empty _ c.if-text-gt65536.false c.next_line.ensures.at_value c.in_err-a.was); within_reading = rw c.from_residual.ensures tt }

pub slice_bounds-view_at-count : goal.slice_bounds-view_at-count
slice_bounds-view_at-count c =
    omega (arith, line-lies _ _ c.next_line.ensures.line_within c.in_ok-a.was)

pub slice_bounds-view_at-start : goal.slice_bounds-view_at-start
slice_bounds-view_at-start c =
    omega (arith, line-lies _ _ c.next_line.ensures.line_within c.in_ok-a.was)

pub slice_bounds-view_at-end : goal.slice_bounds-view_at-end
slice_bounds-view_at-end c =
    omega (arith, line-lies _ _ c.next_line.ensures.line_within c.in_ok-a.was)

pub returns-in_err-view : goal.returns-in_err-view
unfolding reading_as WithinReading
returns-in_err-view c =
    record { owners_after = rw c.from_residual-in_err-view.ensures (yard-unseen _ c.if-text-gt65536.false c.next_line.ensures.at_value c.in_ok-a.was c.view_at.result c.view_at.ensures c.in_err-view.was); within_reading = rw c.from_residual-in_err-view.ensures tt }

pub slice_bounds-is_over-count : goal.slice_bounds-is_over-count
slice_bounds-is_over-count c =
    omega (arith, line-lies _ _ c.next_line.ensures.line_within c.in_ok-a.was)

pub slice_bounds-is_over-start : goal.slice_bounds-is_over-start
slice_bounds-is_over-start c =
    omega (arith, line-lies _ _ c.next_line.ensures.line_within c.in_ok-a.was)

pub slice_bounds-is_over-end : goal.slice_bounds-is_over-end
slice_bounds-is_over-end c =
    omega (arith, line-lies _ _ c.next_line.ensures.line_within c.in_ok-a.was)

pub returns-then-not-is_over : goal.returns-then-not-is_over
unfolding reading_as WithinReading
returns-then-not-is_over c =
    record { owners_after = yard-more _ c.if-text-gt65536.false c.next_line.ensures.at_value c.in_ok-a.was c.view_at.result c.view_at.ensures c.in_ok-view.was c.is_over.ensures c.if-not-is_over.true; within_reading = tt }

pub overflow_add-e : goal.overflow_add-e
overflow_add-e c =
    omega (arith, c.if-text-gt65536.false, line-lies _ _ c.next_line.ensures.line_within c.in_ok-a.was)

pub forms-requires : goal.forms-requires
forms-requires c =
    let pre = c.requires in (c.if-text-gt65536.false, pre)

pub shape_of-numbers-in_err-c : goal.shape_of-numbers-in_err-c
shape_of-numbers-in_err-c c =
    c.forms.auto.numbers

pub shape_of-marks-in_err-c : goal.shape_of-marks-in_err-c
shape_of-marks-in_err-c c =
    c.forms.auto.marks

pub shape_of-points-in_err-c : goal.shape_of-points-in_err-c
shape_of-points-in_err-c c =
    c.forms.auto.points

pub shape_of-starts-in_err-c : goal.shape_of-starts-in_err-c
shape_of-starts-in_err-c c =
    c.forms.auto.starts

pub shape_of-owners-in_err-c : goal.shape_of-owners-in_err-c
shape_of-owners-in_err-c c =
    c.forms.auto.owners

pub returns-in_err-c : goal.returns-in_err-c
unfolding reading_as WithinReading
returns-in_err-c c =
    record { owners_after = rw c.from_residual-in_err-c.ensures (yard-no _ c.if-text-gt65536.false c.next_line.ensures.at_value c.in_ok-a.was c.view_at.result c.view_at.ensures c.in_ok-view.was c.is_over.ensures c.if-not-is_over.false _ _ _ _ _ c.forms.result c.forms.ensures.owners_after c.in_err-c.was); within_reading = rw c.from_residual-in_err-c.ensures tt }

pub shape_of-numbers : goal.shape_of-numbers
shape_of-numbers c =
    c.forms.auto.numbers

pub shape_of-marks : goal.shape_of-marks
shape_of-marks c =
    c.forms.auto.marks

pub shape_of-points : goal.shape_of-points
shape_of-points c =
    c.forms.auto.points

pub shape_of-starts : goal.shape_of-starts
shape_of-starts c =
    c.forms.auto.starts

pub shape_of-owners : goal.shape_of-owners
shape_of-owners c =
    c.forms.auto.owners

pub returns : goal.returns
unfolding WithinReading
returns c =
    record { owners_after = yard-read _ c.if-text-gt65536.false c.next_line.ensures.at_value c.in_ok-a.was c.view_at.result c.view_at.ensures c.in_ok-view.was c.is_over.ensures c.if-not-is_over.false _ _ _ _ _ c.forms.result c.forms.ensures.owners_after c.in_ok-c.was; within_reading = ((within-next c.forms.ensures.within_next c.in_ok-c.was).entries, ((within-next c.forms.ensures.within_next c.in_ok-c.was).points, (within-next c.forms.ensures.within_next c.in_ok-c.was).lines)) }
