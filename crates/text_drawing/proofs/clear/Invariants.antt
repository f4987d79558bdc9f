use Rattle.rows.proofs.Rows.{Filled}
use Rattle.text_drawing.proofs.clear.Given as goal

abbrev pub invariant-loop-i : goal.invariant-loop-i
invariant-loop-i l = Filled 0 l.initial.text l.from l.text l.i
