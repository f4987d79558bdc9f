use Rattle.text_heads.proofs.Words.{Alike}
use Rattle.text_heads.proofs.same_word.Given as goal

abbrev pub invariant-loop-i : goal.invariant-loop-i
invariant-loop-i l = Alike l.w l.v l.i
