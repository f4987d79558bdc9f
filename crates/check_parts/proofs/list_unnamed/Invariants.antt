use Rattle.check_parts.proofs.Drawn.{Listed}
use Rattle.check_parts.proofs.list_unnamed.Given as goal

abbrev pub invariant-loop-i : goal.invariant-loop-i
invariant-loop-i l = Listed l.named l.initial.drawn l.n l.drawn l.i l.d
