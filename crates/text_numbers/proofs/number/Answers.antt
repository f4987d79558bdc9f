use mathlib.Core.Path.{sym, ◌∙◌}
use borrow.Author.Tests.{eq-eqb, ne_eqb}
use Rattle.text_numbers.specs.Numerals.{patterned, negated, as_float}
use Rattle.text_numbers.proofs.Digits.{number-none, number-hex, number-minus, number-plain}
use Rattle.text_numbers.proofs.number.Goals as goal

pub returns-then-w-eq0 : goal.returns-then-w-eq0
returns-then-w-eq0 c =
    sym (number-none _ c.if-w-eq0.true)

pub returns-then-c-eq35 : goal.returns-then-c-eq35
unfolding patterned
returns-then-c-eq35 c =
    sym (number-hex _ c.if-w-eq0.false c.if-c-eq35.true ∙ rw (← c.hexadecimal.ensures, c.in_ok-b.was, c.float_of.ensures))

pub returns-in_err-b : goal.returns-in_err-b
unfolding patterned
returns-in_err-b c =
    rw c.from_residual.ensures (sym (number-hex _ c.if-w-eq0.false c.if-c-eq35.true ∙ rw (← c.hexadecimal.ensures, c.in_err-b.was)))

pub returns-then-n-eq0 : goal.returns-then-n-eq0
unfolding negated
returns-then-n-eq0 c =
    sym (number-minus _ c.if-w-eq0.false c.if-c-eq35.false c.if-c-eq45.true ∙ rw (← c.decimal.ensures, c.in_ok-n.was, eq-eqb _ _ c.if-n-eq0.true))

pub returns-then-c-eq45 : goal.returns-then-c-eq45
unfolding negated
returns-then-c-eq45 c =
    sym (number-minus _ c.if-w-eq0.false c.if-c-eq35.false c.if-c-eq45.true ∙ rw (← c.decimal.ensures, c.in_ok-n.was, ne_eqb _ _ c.if-n-eq0.false))

pub returns-in_err-n : goal.returns-in_err-n
unfolding negated
returns-in_err-n c =
    rw c.from_residual-in_err-n.ensures (sym (number-minus _ c.if-w-eq0.false c.if-c-eq35.false c.if-c-eq45.true ∙ rw (← c.decimal.ensures, c.in_err-n.was)))

pub returns : goal.returns
unfolding as_float
returns c =
    sym (number-plain _ c.if-w-eq0.false c.if-c-eq35.false c.if-c-eq45.false ∙ rw (← c.decimal-2.ensures, c.in_ok-n-2.was))

pub returns-in_err-n-2 : goal.returns-in_err-n-2
unfolding as_float
returns-in_err-n-2 c =
    rw c.from_residual-in_err-n-2.ensures (sym (number-plain _ c.if-w-eq0.false c.if-c-eq35.false c.if-c-eq45.false ∙ rw (← c.decimal-2.ensures, c.in_err-n-2.was)))
