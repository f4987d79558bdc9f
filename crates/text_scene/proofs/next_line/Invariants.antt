use Rattle.text_scene.proofs.Texts.{Skipped}
use lib.ListN.{length}
use Prim.Native.Nat.{◌+◌, ◌-◌}
use Rattle.text_scene.proofs.next_line.Given as goal

abbrev pub invariant-loop-a : goal.invariant-loop-a
invariant-loop-a l = Skipped l.text l.at l.a

abbrev pub decreases-loop-a : goal.decreases-loop-a
decreases-loop-a l = length l.text + 1 - l.a
