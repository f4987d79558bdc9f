use Rattle.text_scene.proofs.Texts.{formed-start, formed-end, formed-no, formed-more, formed-turn, line-lies}
use Rattle.text_forms.proofs.Forms.{within-next, sized-kept}
use Rattle.text_heads.specs.Cursors.{WithinNext}
use native.Mathlib.Omega.{arith}
use mathlib.Core.Path.{◌∙◌}
use Rattle.text_scene.proofs.forms.Goals as goal

pub loop-a-init : goal.loop-a-init
loop-a-init c =
    formed-start _ _ _ _ _ _ _

pub next_line-requires : goal.next_line-requires
next_line-requires c =
    let pre = c.requires in pre.0

pub shape_of-numbers : goal.shape_of-numbers
shape_of-numbers c =
    c.loop-a.invariant.long-ns

pub shape_of-marks : goal.shape_of-marks
shape_of-marks c =
    c.loop-a.invariant.long-ms

pub shape_of-points : goal.shape_of-points
shape_of-points c =
    c.loop-a.invariant.long-ps

pub shape_of-starts : goal.shape_of-starts
shape_of-starts c =
    c.loop-a.invariant.long-ss

pub shape_of-owners : goal.shape_of-owners
shape_of-owners c =
    c.loop-a.invariant.long-os

pub returns : goal.returns
unfolding WithinNext
returns c =
    record { owners_after = formed-end _ _ _ _ _ _ _ _ _ _ _ _ _ _ c.loop-a.invariant c.next_line.ensures.at_value c.in_default.is; within_next = c.loop-a.invariant.within }

pub slice_bounds-form-count : goal.slice_bounds-form-count
slice_bounds-form-count c =
    omega (arith, line-lies _ _ c.next_line.ensures.line_within c.in-Some.is)

pub slice_bounds-form-start : goal.slice_bounds-form-start
slice_bounds-form-start c =
    omega (arith, line-lies _ _ c.next_line.ensures.line_within c.in-Some.is)

pub slice_bounds-form-end : goal.slice_bounds-form-end
slice_bounds-form-end c =
    omega (arith, line-lies _ _ c.next_line.ensures.line_within c.in-Some.is)

pub form-requires : goal.form-requires
form-requires c =
    let pre = c.requires in (record { entries = c.loop-a.invariant.within.entries; points = c.loop-a.invariant.within.points; lines = c.loop-a.invariant.within.lines }, sized-kept pre.1 c.loop-a.invariant.long-ns c.loop-a.invariant.long-ms c.loop-a.invariant.long-ps c.loop-a.invariant.long-ss c.loop-a.invariant.long-os)

pub shape_of-numbers-in_err-g : goal.shape_of-numbers-in_err-g
shape_of-numbers-in_err-g c =
    c.form.auto.numbers ∙ c.loop-a.invariant.long-ns

pub shape_of-marks-in_err-g : goal.shape_of-marks-in_err-g
shape_of-marks-in_err-g c =
    c.form.auto.marks ∙ c.loop-a.invariant.long-ms

pub shape_of-points-in_err-g : goal.shape_of-points-in_err-g
shape_of-points-in_err-g c =
    c.form.auto.points ∙ c.loop-a.invariant.long-ps

pub shape_of-starts-in_err-g : goal.shape_of-starts-in_err-g
shape_of-starts-in_err-g c =
    c.form.auto.starts ∙ c.loop-a.invariant.long-ss

pub shape_of-owners-in_err-g : goal.shape_of-owners-in_err-g
shape_of-owners-in_err-g c =
    c.form.auto.owners ∙ c.loop-a.invariant.long-os

pub returns-in_err-g : goal.returns-in_err-g
unfolding WithinNext
returns-in_err-g c =
    record { owners_after = rw c.from_residual.ensures (formed-no _ _ _ _ _ _ _ _ _ _ _ _ _ _ c.loop-a.invariant c.next_line.ensures.at_value c.in-Some.is _ _ _ _ _ c.form.result c.form.ensures.owners_after c.in_err-g.was); within_next = rw c.from_residual.ensures tt }

pub slice_bounds-is_over-count : goal.slice_bounds-is_over-count
slice_bounds-is_over-count c =
    omega (arith, line-lies _ _ c.next_line.ensures.line_within c.in-Some.is)

pub slice_bounds-is_over-start : goal.slice_bounds-is_over-start
slice_bounds-is_over-start c =
    omega (arith, line-lies _ _ c.next_line.ensures.line_within c.in-Some.is)

pub slice_bounds-is_over-end : goal.slice_bounds-is_over-end
slice_bounds-is_over-end c =
    omega (arith, line-lies _ _ c.next_line.ensures.line_within c.in-Some.is)

pub shape_of-numbers-then-not-is_over : goal.shape_of-numbers-then-not-is_over
shape_of-numbers-then-not-is_over c =
    c.form.auto.numbers ∙ c.loop-a.invariant.long-ns

pub shape_of-marks-then-not-is_over : goal.shape_of-marks-then-not-is_over
shape_of-marks-then-not-is_over c =
    c.form.auto.marks ∙ c.loop-a.invariant.long-ms

pub shape_of-points-then-not-is_over : goal.shape_of-points-then-not-is_over
shape_of-points-then-not-is_over c =
    c.form.auto.points ∙ c.loop-a.invariant.long-ps

pub shape_of-starts-then-not-is_over : goal.shape_of-starts-then-not-is_over
shape_of-starts-then-not-is_over c =
    c.form.auto.starts ∙ c.loop-a.invariant.long-ss

pub shape_of-owners-then-not-is_over : goal.shape_of-owners-then-not-is_over
shape_of-owners-then-not-is_over c =
    c.form.auto.owners ∙ c.loop-a.invariant.long-os

pub returns-then-not-is_over : goal.returns-then-not-is_over
unfolding WithinNext
returns-then-not-is_over c =
    record { owners_after = formed-more _ _ _ _ _ _ _ _ _ _ _ _ _ _ c.loop-a.invariant c.next_line.ensures.at_value c.in-Some.is _ _ _ _ _ c.form.result c.form.ensures.owners_after c.in_ok-g.was c.is_over.ensures c.if-not-is_over.true; within_next = tt }

pub overflow_add-i : goal.overflow_add-i
overflow_add-i c =
    let pre = c.requires in omega (arith, pre.0, line-lies _ _ c.next_line.ensures.line_within c.in-Some.is)

pub loop-a-smaller : goal.loop-a-smaller
loop-a-smaller c =
    omega (arith, line-lies _ _ c.next_line.ensures.line_within c.in-Some.is)

pub loop-a-preserved : goal.loop-a-preserved
loop-a-preserved c =
    formed-turn _ _ _ _ _ _ _ _ _ _ _ _ _ _ c.loop-a.invariant c.next_line.ensures.at_value c.in-Some.is _ _ _ _ _ c.form.result c.form.ensures.owners_after c.in_ok-g.was c.is_over.ensures c.if-not-is_over.false (within-next c.form.ensures.within_next c.in_ok-g.was) c.form.auto.numbers c.form.auto.marks c.form.auto.points c.form.auto.starts c.form.auto.owners
