use Rattle.paths.proofs.Runs.{Extending}
use Rattle.paths.proofs.extend.Given as goal

abbrev pub invariant-loop-i : goal.invariant-loop-i
invariant-loop-i l = Extending l.path l.initial.out l.from l.end l.n l.out l.i l.m
