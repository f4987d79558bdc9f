use Rattle.check_scene.proofs.Filling.{filling-start, filling-turn, filling-fails, filling-end}
use Rattle.check_scene.proofs.Boxes.{formed}
use Rattle.check_parts.proofs.Parts.{never}
use Rattle.limits.specs.Limits.{within_box}
use Rattle.rows.specs.Points.{box_row}
use native.Mathlib.Omega.{arith}
use mathlib.Core.Path.{refl, ap, ◌∙◌}
use Rattle.check_scene.proofs.extents.all_within.Goals as goal

pub loop-i-init : goal.loop-i-init
loop-i-init c =
    filling-start _ _ _ _ _ _

pub write_box-requires : goal.write_box-requires
write_box-requires c =
    let pre = c.requires in omega (arith, c.loop-i-test.true, pre.0, c.loop-i.invariant.same)

pub shape_of-boxes-then-not-within_box : goal.shape_of-boxes-then-not-within_box
shape_of-boxes-then-not-within_box c =
    c.write_box.auto.xs ∙ c.loop-i.invariant.same

pub returns-then-not-within_box : goal.returns-then-not-within_box
returns-then-not-within_box c =
    let args = c.args in let pre = c.requires in record { value = filling-fails _ _ _ _ _ _ _ _ c.loop-i.invariant c.loop-i-test.true (c.within_box.ensures ∙ ap within_box (formed _ _ _ pre.1 args.boxes.now c.loop-i.boxes _ c.loop-i-test.true pre.0 c.loop-i.invariant.same c.loop-i.invariant.filled c.entry_at-e.ensures c.entry_box-b.ensures)) c.if-not-within_box.true; boxes_after = never }

pub loop-i-smaller : goal.loop-i-smaller
loop-i-smaller c =
    omega (arith, c.loop-i-test.true)

pub loop-i-preserved : goal.loop-i-preserved
loop-i-preserved c =
    let args = c.args in let pre = c.requires in filling-turn _ _ _ _ _ _ _ _ c.loop-i.invariant c.loop-i-test.true (c.within_box.ensures ∙ ap within_box (formed _ _ _ pre.1 args.boxes.now c.loop-i.boxes _ c.loop-i-test.true pre.0 c.loop-i.invariant.same c.loop-i.invariant.filled c.entry_at-e.ensures c.entry_box-b.ensures)) pre.0 (box_row c.entry_box-b.result) refl (formed _ _ _ pre.1 args.boxes.now c.loop-i.boxes _ c.loop-i-test.true pre.0 c.loop-i.invariant.same c.loop-i.invariant.filled c.entry_at-e.ensures c.entry_box-b.ensures) c.write_box.ensures c.if-not-within_box.false

pub shape_of-boxes : goal.shape_of-boxes
shape_of-boxes c =
    c.loop-i.invariant.same

pub returns : goal.returns
returns c =
    record { value = (filling-end _ _ _ _ _ _ _ _ c.loop-i.invariant c.loop-i-test.false).0; boxes_after = (filling-end _ _ _ _ _ _ _ _ c.loop-i.invariant c.loop-i-test.false).1 }
