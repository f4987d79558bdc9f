use Rattle.path_chop.proofs.Halving.{Chopping}
use Rattle.path_chop.proofs.chop_from.Given as goal

abbrev pub invariant-loop-i : goal.invariant-loop-i
invariant-loop-i l = Chopping l.s l.path l.initial.out l.initial.a l.from l.end l.n l.out l.a l.i l.m
