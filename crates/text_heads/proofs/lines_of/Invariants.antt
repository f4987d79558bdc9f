use Rattle.text_heads.proofs.Lines.{Lined}
use Prim.Native.Nat.{◌-◌}
use Rattle.text_heads.proofs.lines_of.Given as goal

abbrev pub invariant-loop-n : goal.invariant-loop-n
invariant-loop-n l = Lined l.text l.c l.owner l.initial.points l.initial.starts l.initial.owners l.points l.starts l.owners l.at l.p l.k

abbrev pub decreases-loop-n : goal.decreases-loop-n
decreases-loop-n l = 2048 - l.k
