use Rattle.text_heads.proofs.Lines.{Dotted}
use Prim.Native.Nat.{◌-◌}
use Rattle.text_heads.proofs.line_points.Given as goal

abbrev pub invariant-loop-n : goal.invariant-loop-n
invariant-loop-n l = Dotted l.text l.from l.first l.initial.points l.points l.at l.k

abbrev pub decreases-loop-n : goal.decreases-loop-n
decreases-loop-n l = 2048 - l.k
