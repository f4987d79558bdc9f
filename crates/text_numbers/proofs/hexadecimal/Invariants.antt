use Prim.Native.Nat.{◌≤◌, ◌<◌, ◌^◌}
use mathlib.Core.Path.{◌≡◌}
use lib.ListN.{length, drop}
use Rattle.text_numbers.specs.Numerals.{hex_of, hex_from}
use Rattle.text_numbers.proofs.hexadecimal.Given as goal

abbrev pub invariant-loop-i : goal.invariant-loop-i
invariant-loop-i l = (l.i ≤ length l.w) × (l.n < 16 ^ l.i) × (hex_of l.w ≡ hex_from l.n (drop l.i l.w))
