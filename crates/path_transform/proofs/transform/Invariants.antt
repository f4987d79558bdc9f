use Rattle.path_transform.proofs.Moving.{Moving}
use Rattle.path_transform.proofs.transform.Given as goal

abbrev pub invariant-loop-i : goal.invariant-loop-i
invariant-loop-i l = Moving l.matrix l.initial.xs l.n l.xs l.i
