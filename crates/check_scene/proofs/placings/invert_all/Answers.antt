use Rattle.check_scene.proofs.Filling.{filling-start, filling-turn, filling-fails, filling-end}
use Rattle.check_scene.specs.Placings.{inverse_at}
use Rattle.check_parts.proofs.Parts.{never}
use Rattle.rows.specs.Entries.{numbers_row}
use native.Mathlib.Omega.{arith}
use mathlib.Core.Path.{refl, ◌∙◌}
use Rattle.check_scene.proofs.placings.invert_all.Goals as goal

pub loop-i-init : goal.loop-i-init
loop-i-init c =
    filling-start _ _ _ _ _ _

pub invert-requires : goal.invert-requires
invert-requires c =
    let pre = c.requires in (omega (arith, c.loop-i-test.true), (omega (arith, c.loop-i-test.true, pre.0), omega (arith, c.loop-i-test.true, pre.1, c.loop-i.invariant.same)))

pub shape_of-inverses-then-not-invert : goal.shape_of-inverses-then-not-invert
shape_of-inverses-then-not-invert c =
    c.invert.auto.inverses ∙ c.loop-i.invariant.same

pub returns-then-not-invert : goal.returns-then-not-invert
returns-then-not-invert c =
    record { value = filling-fails _ _ _ _ _ _ _ _ c.loop-i.invariant c.loop-i-test.true c.invert.ensures.value c.if-not-invert.true; inverses_after = never }

pub loop-i-smaller : goal.loop-i-smaller
loop-i-smaller c =
    omega (arith, c.loop-i-test.true)

pub loop-i-preserved : goal.loop-i-preserved
loop-i-preserved c =
    let args = c.args in let pre = c.requires in filling-turn _ _ _ _ _ _ _ _ c.loop-i.invariant c.loop-i-test.true c.invert.ensures.value pre.1 (numbers_row (inverse_at args.numbers.now args.marks.now c.loop-i.i)) refl refl c.invert.ensures.inverses_after c.if-not-invert.false

pub shape_of-inverses : goal.shape_of-inverses
shape_of-inverses c =
    c.loop-i.invariant.same

pub returns : goal.returns
returns c =
    record { value = (filling-end _ _ _ _ _ _ _ _ c.loop-i.invariant c.loop-i-test.false).0; inverses_after = (filling-end _ _ _ _ _ _ _ _ c.loop-i.invariant c.loop-i-test.false).1 }
