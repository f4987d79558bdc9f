use Rattle.text_drawing.proofs.Adding.{Writing}
use Rattle.text_drawing.specs.Drawings.{point_text}
use Rattle.paths.specs.Ends.{all_points}
use Rattle.rows.specs.Rows.{flat}
use lib.Seq.{slice}
use Prim.Native.Nat.{◌≤◌}
use Rattle.text_drawing.proofs.put_points.Given as goal

abbrev pub invariant-loop-i : goal.invariant-loop-i
invariant-loop-i l = (l.i ≤ l.end) × Writing (flat point_text (slice l.from l.end (all_points l.path))) l.initial.text l.initial.d l.text l.d (flat point_text (slice l.i l.end (all_points l.path)))
