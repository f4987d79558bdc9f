use mathlib.Core.Path.{refl, sym, ◌∙◌}
use native.Mathlib.Omega.{arith}
use Rattle.text_tokens.proofs.Tokens.{left-space, left_over}
use Rattle.text_tokens.proofs.skip.Goals as goal

pub loop-i-init : goal.loop-i-init
loop-i-init c =
    refl

pub returns-then-text-i-ne32 : goal.returns-then-text-i-ne32
returns-then-text-i-ne32 c =
    (c.loop-i.invariant, λ _. c.if-text-i-ne32.true)

pub loop-i-preserved : goal.loop-i-preserved
loop-i-preserved c =
    c.loop-i.invariant ∙ left-space _ _ c.loop-i-test.true c.if-text-i-ne32.false

pub returns : goal.returns
returns c =
    (c.loop-i.invariant ∙ left_over _ _ c.loop-i-test.false ∙ sym (left_over _ _ (omega arith)), λ l. absurd (omega (arith, l)))
