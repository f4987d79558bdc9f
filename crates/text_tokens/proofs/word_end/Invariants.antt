use Prim.Native.Nat.{◌≤◌, ◌<◌}
use mathlib.Core.Path.{◌≡◌}
use lib.ListN.{length, drop}
use Rattle.text_tokens.specs.Tokens.{left, part, tokens_from}
use Rattle.text_tokens.proofs.word_end.Given as goal

abbrev pub invariant-loop-i : goal.invariant-loop-i
invariant-loop-i l = (l.at < l.i) × (l.i ≤ length l.text) × (left l.text l.at ≡ tokens_from (part l.at l.i l.text) (drop l.i l.text))
