use Rattle.rows.proofs.Rows.{Filled}
use Rattle.rows.proofs.clear_to.Given as goal

abbrev pub invariant-loop-i : goal.invariant-loop-i
invariant-loop-i g l = Filled l.zero l.initial.xs l.from l.xs l.i
