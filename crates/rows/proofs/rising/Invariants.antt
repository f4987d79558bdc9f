use Rattle.rows.proofs.Starts.{Rising}
use Rattle.rows.proofs.rising.Given as goal

abbrev pub invariant-loop-i : goal.invariant-loop-i
invariant-loop-i l = Rising l.points l.starts l.i
