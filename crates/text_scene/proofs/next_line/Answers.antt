use Rattle.text_scene.proofs.Texts.{skipped-start, skipped-turn, skipped-line, skipped-over}
use Rattle.text_scene.specs.Readings.{LineWithin}
use native.Mathlib.Omega.{arith}
use Rattle.text_scene.proofs.next_line.Goals as goal

pub loop-a-init : goal.loop-a-init
loop-a-init c =
    skipped-start _ _

pub line_end-e-requires : goal.line_end-e-requires
line_end-e-requires c =
    c.loop-a-test.true

pub slice_bounds-is_over-count : goal.slice_bounds-is_over-count
slice_bounds-is_over-count c =
    omega (arith, c.line_end-e.ensures.0, c.line_end-e.ensures.1.0)

pub slice_bounds-is_over-start : goal.slice_bounds-is_over-start
slice_bounds-is_over-start c =
    omega (arith, c.line_end-e.ensures.0, c.line_end-e.ensures.1.0)

pub slice_bounds-is_over-end : goal.slice_bounds-is_over-end
slice_bounds-is_over-end c =
    omega (arith, c.line_end-e.ensures.0, c.line_end-e.ensures.1.0)

pub returns-then-not-is_over : goal.returns-then-not-is_over
unfolding LineWithin
returns-then-not-is_over c =
    record { at_value = skipped-line _ _ _ c.loop-a.invariant _ c.line_end-e.ensures.1.1 c.is_over.ensures c.if-not-is_over.true; line_within = (c.loop-a.invariant.from, (c.line_end-e.ensures.0, c.line_end-e.ensures.1.0)) }

pub overflow_add-a : goal.overflow_add-a
overflow_add-a c =
    let pre = c.requires in omega (arith, pre, c.line_end-e.ensures.1.0)

pub loop-a-smaller : goal.loop-a-smaller
loop-a-smaller c =
    omega (arith, c.loop-a-test.true, c.line_end-e.ensures.0)

pub loop-a-preserved : goal.loop-a-preserved
loop-a-preserved c =
    skipped-turn _ _ _ c.loop-a.invariant _ c.line_end-e.ensures.1.1 c.is_over.ensures c.line_end-e.ensures.0 c.if-not-is_over.false

pub returns : goal.returns
unfolding LineWithin
returns c =
    record { at_value = skipped-over _ _ _ c.loop-a.invariant c.loop-a-test.false; line_within = tt }
