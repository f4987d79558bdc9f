use Prim.Native.Nat.{◌-◌}
use Rattle.degrees.proofs.Reading.{Converted}
use Rattle.degrees.proofs.all_from_units.Given as goal

abbrev pub invariant-loop-i : goal.invariant-loop-i
invariant-loop-i l = Converted l.all l.i
