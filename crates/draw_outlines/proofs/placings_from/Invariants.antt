use Rattle.draw_outlines.proofs.Reading.{Reading}
use Rattle.draw_outlines.proofs.placings_from.Given as goal

abbrev pub invariant-loop-k : goal.invariant-loop-k
invariant-loop-k l = Reading l.xs l.n l.p l.k
