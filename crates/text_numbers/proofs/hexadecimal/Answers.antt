use mathlib.Core.Path.{sym, ◌∙◌}
use native.Mathlib.Omega.{arith}
use borrow.Author.Tests.{eq-eqb, ne_eqb}
use Rattle.text_numbers.specs.Numerals.{hex_of}
use Rattle.text_numbers.proofs.Digits.{hex-more, hex-stray, hex-end, hex-below, hex-fits}
use Rattle.text_numbers.proofs.hexadecimal.Goals as goal

pub returns-then-w-ne16 : goal.returns-then-w-ne16
unfolding hex_of
returns-then-w-ne16 c =
    rw (ne_eqb _ _ c.if-w-ne16.true)

pub loop-i-init : goal.loop-i-init
unfolding hex_of
loop-i-init c =
    (omega arith, omega arith, rw (eq-eqb _ _ c.if-w-ne16.false))

pub returns-then-d-ge16 : goal.returns-then-d-ge16
returns-then-d-ge16 c =
    sym (c.loop-i.invariant.2 ∙ hex-stray _ _ _ _ c.loop-i-test.true c.digit-d.ensures c.if-d-ge16.true)

pub overflow_mul-n : goal.overflow_mul-n
overflow_mul-n c =
    omega (arith, hex-fits _ _ c.loop-i.invariant.1 (omega (arith, c.if-w-ne16.false)))

pub overflow_add-n : goal.overflow_add-n
overflow_add-n c =
    omega (arith, hex-fits _ _ c.loop-i.invariant.1 (omega (arith, c.if-w-ne16.false)))

pub loop-i-preserved : goal.loop-i-preserved
loop-i-preserved c =
    (omega arith, hex-below _ _ _ c.loop-i.invariant.1 c.if-d-ge16.false, c.loop-i.invariant.2 ∙ hex-more _ _ _ _ c.loop-i-test.true c.digit-d.ensures c.if-d-ge16.false)

pub returns : goal.returns
returns c =
    sym (c.loop-i.invariant.2 ∙ hex-end _ _ _ c.loop-i-test.false)
