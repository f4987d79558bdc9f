use lib.ListN.{length}
use Rattle.query_scene.proofs.Copies.{Copied}
use Rattle.path_copy.proofs.copy_starts.Given as goal

abbrev pub invariant-loop-i : goal.invariant-loop-i
invariant-loop-i l = Copied l.from l.initial.to (length l.from) l.to l.i
