use Rattle.path_chop.proofs.Halving.{Subdividing}
use Rattle.path_chop.proofs.Waiting.{waiting, turns, turns_of}
use Prim.Native.Nat.{◌+◌}
use Rattle.path_chop.proofs.subdivide.Given as goal

abbrev pub invariant-loop-left : goal.invariant-loop-left
invariant-loop-left l = Subdividing l.s l.initial.from l.initial.to l.initial.out l.n l.ends l.lefts l.out l.from l.to l.left l.m l.k

abbrev pub decreases-loop-left : goal.decreases-loop-left
decreases-loop-left l = turns l.left + turns_of (waiting l.ends l.lefts l.k)
