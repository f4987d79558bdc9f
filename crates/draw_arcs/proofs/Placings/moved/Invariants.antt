use Rattle.draw_arcs.proofs.Moving.{Moving}
use Rattle.draw_arcs.proofs.Placings.moved.Given as goal

abbrev pub invariant-loop-i : goal.invariant-loop-i
invariant-loop-i l = Moving l.held l.initial.i l.initial.p l.p l.i
