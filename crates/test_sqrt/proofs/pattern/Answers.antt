use mathlib.Core.Path.{◌≡◌, refl, sym, ap, ◌∙◌}
use lib.Ieee.{nan, binary64, to_bits}
use Rattle.floats.proofs.Patterns.{equals_itself, not_itself}
use borrow.Author.Rules.{rules}
use Rattle.test_sqrt.proofs.pattern.Goals as goal

of_nan : 0x7FF8_0000_0000_0000 ≡ to_bits binary64 nan
unfolding to_bits
of_nan = refl

pub float_to_bits-result : goal.float_to_bits-result
float_to_bits-result c =
    equals_itself c.args.v c.if-v.true

pub returns : goal.returns
returns c =
    of_nan ∙ ap (to_bits binary64) (sym (not_itself c.args.v c.if-v.false))
