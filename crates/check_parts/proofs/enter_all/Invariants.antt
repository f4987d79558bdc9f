use Rattle.check_parts.specs.Parts.{Known, parts_ok}
use lib.ListN.{length}
use mathlib.Core.Bool.{true}
use mathlib.Core.Path.{◌≡◌}
use Prim.Native.Nat.{◌≤◌}
use Rattle.check_parts.proofs.enter_all.Given as goal

abbrev pub invariant-loop-i : goal.invariant-loop-i
invariant-loop-i l = (l.i ≤ l.n) × (length l.depths ≡ length l.initial.depths) × (length l.named ≡ length l.initial.named) × Known l.marks l.i l.depths l.named × (parts_ok l.marks l.i ≡ true)
