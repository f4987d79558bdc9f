use Rattle.plotter_pens.proofs.Finite.{Looking}
use Rattle.plotter_pens.proofs.all_finite.Given as goal

abbrev pub invariant-loop-i : goal.invariant-loop-i
invariant-loop-i l = Looking l.xs l.i
