use Rattle.query_scene.proofs.Copies.{Copied}
use Rattle.query_scene.proofs.copy.Given as goal

abbrev pub invariant-loop-i : goal.invariant-loop-i
invariant-loop-i l = Copied l.from l.initial.to l.n l.to l.i
