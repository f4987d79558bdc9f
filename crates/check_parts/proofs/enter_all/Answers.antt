use Rattle.check_parts.proofs.Parts.{never, ill-all, ok-more}
use Rattle.check_parts.specs.Parts.{parts_ok, Flags, named_before}
use native.Mathlib.Nat.{le_antisymm}
use native.Mathlib.Omega.{arith}
use mathlib.Core.Path.{refl, sym, ap, subst, ◌∙◌}
use Prim.Native.Nat.{ℕ}
use Rattle.check_parts.proofs.enter_all.Goals as goal

pub loop-i-init : goal.loop-i-init
unfolding parts_ok
loop-i-init c =
    (omega arith, refl, refl, c.requires.1.1, refl)

pub enter-requires : goal.enter-requires
enter-requires c =
    let pre = c.requires in record { marked = c.loop-i-test.true; deep_room = omega (arith, pre.0, c.loop-i.invariant.1, c.loop-i-test.true); flag_room = omega (arith, pre.1.0, c.loop-i.invariant.2, c.loop-i-test.true); known = c.loop-i.invariant.3 }

pub shape_of-depths-then-not-enter : goal.shape_of-depths-then-not-enter
shape_of-depths-then-not-enter c =
    c.enter.auto.depths ∙ c.loop-i.invariant.1

pub shape_of-named-then-not-enter : goal.shape_of-named-then-not-enter
shape_of-named-then-not-enter c =
    c.enter.auto.named ∙ c.loop-i.invariant.2

pub returns-then-not-enter : goal.returns-then-not-enter
returns-then-not-enter c =
    record { value = ill-all _ _ _ c.loop-i-test.true c.loop-i.invariant.4 (sym c.if-not-enter.true ∙ c.enter.ensures.value); flags = never }

pub loop-i-smaller : goal.loop-i-smaller
loop-i-smaller c =
    omega (arith, c.loop-i-test.true)

pub loop-i-preserved : goal.loop-i-preserved
loop-i-preserved c =
    (omega (arith, c.loop-i-test.true), c.enter.auto.depths ∙ c.loop-i.invariant.1, c.enter.auto.named ∙ c.loop-i.invariant.2, c.enter.ensures.known c.if-not-enter.false, sym (ok-more _ _ c.loop-i.invariant.4 c.enter.ensures.value) ∙ c.if-not-enter.false)

pub shape_of-depths : goal.shape_of-depths
shape_of-depths c =
    c.loop-i.invariant.1

pub shape_of-named : goal.shape_of-named
shape_of-named c =
    c.loop-i.invariant.2

pub returns : goal.returns
returns c =
    let args = c.args in record { value = sym c.loop-i.invariant.4 ∙ ap (parts_ok args.marks.now) (le_antisymm c.loop-i.invariant.0 c.loop-i-test.false); flags = λ _. subst (λ (k : ℕ). Flags (named_before args.marks.now k) c.loop-i.named) (le_antisymm c.loop-i.invariant.0 c.loop-i-test.false) c.loop-i.invariant.3.flags }
