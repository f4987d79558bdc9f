use Prim.Native.Nat.{◌≤◌}
use mathlib.Core.Path.{◌≡◌}
use lib.ListN.{length, drop}
use Rattle.text_numbers.specs.Numerals.{decimal_of, decimal_from}
use Rattle.text_numbers.proofs.decimal.Given as goal

abbrev pub invariant-loop-i : goal.invariant-loop-i
invariant-loop-i l = (l.n ≤ 1000000) × (l.i ≤ length l.w) × (decimal_of l.w ≡ decimal_from l.n (drop l.i l.w))
