use Rattle.path_simplify.proofs.Thinning.{Thinning}
use Prim.Native.Nat.{◌-◌, ◌*◌}
use Rattle.path_simplify.proofs.path_simplify.Given as goal

abbrev pub invariant-loop-w : goal.invariant-loop-w
invariant-loop-w l = Thinning l.threshold l.path l.initial.out l.from l.end l.n l.room l.out l.a l.m l.w

abbrev pub decreases-loop-w : goal.decreases-loop-w
decreases-loop-w l = 2 * (l.end - l.a) - l.w
