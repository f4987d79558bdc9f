use Rattle.paths.proofs.Judging.{Checking}
use Rattle.paths.proofs.points_ok.Given as goal

abbrev pub invariant-loop-i : goal.invariant-loop-i
invariant-loop-i l = Checking l.path l.i
