use Rattle.text_scene.proofs.Texts.{Formed}
use lib.ListN.{length}
use Prim.Native.Nat.{◌+◌, ◌-◌}
use Rattle.text_scene.proofs.forms.Given as goal

abbrev pub invariant-loop-a : goal.invariant-loop-a
invariant-loop-a l = Formed l.text l.at l.initial.numbers l.initial.marks l.initial.points l.initial.starts l.initial.owners l.numbers l.marks l.points l.starts l.owners l.i l.c

abbrev pub decreases-loop-a : goal.decreases-loop-a
decreases-loop-a l = length l.text + 1 - l.i
