use mathlib.Core.Path.{sym, ◌∙◌}
use native.Mathlib.Omega.{arith}
use Rattle.text_numbers.proofs.Digits.{decimal-more, decimal-stray, decimal-over, decimal-end, nothing, something}
use Rattle.text_numbers.proofs.decimal.Goals as goal

pub returns-then-w-eq0 : goal.returns-then-w-eq0
returns-then-w-eq0 c =
    sym (nothing _ c.if-w-eq0.true)

pub loop-i-init : goal.loop-i-init
loop-i-init c =
    (omega arith, omega arith, something _ c.if-w-eq0.false)

pub returns-then-d-ge10 : goal.returns-then-d-ge10
returns-then-d-ge10 c =
    sym (c.loop-i.invariant.2 ∙ decimal-stray _ _ _ _ c.loop-i-test.true c.digit-d.ensures c.if-d-ge10.true)

pub overflow_mul-n : goal.overflow_mul-n
overflow_mul-n c =
    omega (arith, c.loop-i.invariant.0)

pub overflow_add-n : goal.overflow_add-n
overflow_add-n c =
    omega (arith, c.loop-i.invariant.0)

pub returns-then-n-gt1000000 : goal.returns-then-n-gt1000000
returns-then-n-gt1000000 c =
    sym (c.loop-i.invariant.2 ∙ decimal-more _ _ _ _ c.loop-i-test.true c.digit-d.ensures c.if-d-ge10.false ∙ decimal-over _ _ c.if-n-gt1000000.true)

pub loop-i-preserved : goal.loop-i-preserved
loop-i-preserved c =
    (omega (arith, c.if-n-gt1000000.false), omega arith, c.loop-i.invariant.2 ∙ decimal-more _ _ _ _ c.loop-i-test.true c.digit-d.ensures c.if-d-ge10.false)

pub returns : goal.returns
returns c =
    sym (c.loop-i.invariant.2 ∙ decimal-end _ _ _ c.loop-i.invariant.0 c.loop-i-test.false)
