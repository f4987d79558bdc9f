use Rattle.text_scene.proofs.Texts.{Running}
use Rattle.text_scene.proofs.line_end.Given as goal

abbrev pub invariant-loop-i : goal.invariant-loop-i
invariant-loop-i l = Running l.text l.at l.i
