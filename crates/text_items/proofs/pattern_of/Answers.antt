use mathlib.Core.Path.{sym, ap, ◌∙◌}
use lib.Ieee.{binary64, to_bits}
use Rattle.text_drawing.proofs.Numbers.{nan-of, not_so}
use Rattle.floats.proofs.Tests.{ne-self}
use Rattle.text_items.proofs.Items.{nan_pattern}
use borrow.Author.Rules.{rules}
use Rattle.text_items.proofs.pattern_of.Goals as goal

pub returns-then-x : goal.returns-then-x
returns-then-x c =
    sym (ap (to_bits binary64) (nan-of _ (sym (ne-self _) ∙ c.if-x.true)) ∙ nan_pattern)

pub float_to_bits-result : goal.float_to_bits-result
float_to_bits-result c =
    not_so _ (sym (ne-self _) ∙ c.if-x.false)
