use Rattle.text_drawing.proofs.Adding.{Writing}
use lib.ListN.{drop}
use Rattle.text_drawing.proofs.put_word.Given as goal

abbrev pub invariant-loop-i : goal.invariant-loop-i
invariant-loop-i l = Writing l.word l.initial.text l.initial.d l.text l.d (drop l.i l.word)
