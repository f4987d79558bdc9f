use mathlib.Core.Path.{sym, ap, ◌∙◌}
use Rattle.text_drawing.proofs.Numbers.{nan-bits, nan-of, not_so}
use Rattle.floats.proofs.Tests.{ne-self}
use Rattle.text_drawing.specs.Numbers.{bits_of}
use Rattle.text_drawing.proofs.bits_of.Goals as goal

pub returns-then-x : goal.returns-then-x
unfolding bits_of
returns-then-x c =
    rw c.if-x.true

pub returns-then-x-2 : goal.returns-then-x-2
returns-then-x-2 c =
    sym (ap bits_of (nan-of _ (sym (ne-self _) ∙ c.if-x-2.true)) ∙ nan-bits)

pub float_to_bits-result : goal.float_to_bits-result
float_to_bits-result c =
    not_so _ (sym (ne-self _) ∙ c.if-x-2.false)

pub returns : goal.returns
unfolding bits_of
returns c =
    rw c.if-x.false
