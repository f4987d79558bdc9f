use Rattle.text_drawing.proofs.Adding.{Writing}
use Rattle.text_drawing.specs.Drawings.{path_text}
use Rattle.paths.specs.Ends.{all_points}
use Rattle.paths.specs.Paths.{paths_of}
use Rattle.rows.specs.Rows.{flat}
use lib.ListN.{drop}
use Rattle.text_drawing.proofs.put_paths.Given as goal

abbrev pub invariant-loop-i : goal.invariant-loop-i
invariant-loop-i l = Writing (flat path_text (paths_of (all_points l.path) l.starts)) l.initial.text l.initial.d l.text l.d (flat path_text (paths_of (all_points l.path) (drop l.i l.starts)))
