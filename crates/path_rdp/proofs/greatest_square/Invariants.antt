use Rattle.path_rdp.proofs.Scanning.{Peaking}
use Rattle.paths.specs.Ends.{all_points}
use lib.Seq.{slice}
use Rattle.path_rdp.proofs.greatest_square.Given as goal

abbrev pub invariant-loop-i : goal.invariant-loop-i
invariant-loop-i l = Peaking (slice l.from l.end (all_points l.path)) (record { index = l.index; square = l.square; lower = l.lower }) l.i
