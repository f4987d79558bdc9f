use Rattle.text_heads.proofs.Numbers.{Gathered}
use Rattle.text_heads.proofs.numbers_at.Given as goal

abbrev pub invariant-loop-i : goal.invariant-loop-i
invariant-loop-i l = Gathered l.text l.at l.n l.initial.row l.row l.a l.i
