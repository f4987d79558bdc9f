use mathlib.Core.Path.{◌≡◌}
use Rattle.text_tokens.specs.Tokens.{left}
use Rattle.text_tokens.proofs.skip.Given as goal

abbrev pub invariant-loop-i : goal.invariant-loop-i
invariant-loop-i l = left l.text l.at ≡ left l.text l.i
