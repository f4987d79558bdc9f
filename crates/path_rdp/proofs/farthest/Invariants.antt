use Rattle.path_rdp.proofs.Scanning.{Scanning}
use Rattle.paths.specs.Ends.{all_points}
use lib.Seq.{slice}
use Rattle.sqrt.specs.Root.{sqrt_of}
use mathlib.Core.Path.{◌≡◌}
use Rattle.path_rdp.proofs.farthest.Given as goal

abbrev pub invariant-loop-i : goal.invariant-loop-i
invariant-loop-i l = Scanning (slice l.from l.end (all_points l.path)) l.best.far l.i × (l.best.far.distance ≡ sqrt_of l.best.square)
