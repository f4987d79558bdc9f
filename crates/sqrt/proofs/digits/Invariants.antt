use Rattle.std.proofs.Common.{◌-◌}
use Rattle.sqrt.proofs.Squares.{Turn}
use Rattle.sqrt.proofs.digits.Given as goal

abbrev pub invariant-loop-i : goal.invariant-loop-i
invariant-loop-i l = Turn l.m l.whole l.rest l.left l.i
