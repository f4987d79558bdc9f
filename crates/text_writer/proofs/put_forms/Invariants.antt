use lib.ListN.{drop}
use Rattle.rows.specs.Rows.{flat}
use Rattle.scene.specs.Scenes.{scene_of}
use Rattle.text_canonical.specs.Forms.{form_at}
use Rattle.text_drawing.proofs.Adding.{Writing}
use Rattle.text_writer.proofs.Yards.{line_of}
use Rattle.text_writer.proofs.put_forms.Given as goal

abbrev pub invariant-loop-k : goal.invariant-loop-k
invariant-loop-k l = Writing (flat (line_of (form_at 8 (scene_of l.numbers l.marks l.points l.starts l.owners))) l.listed) l.initial.text l.initial.d l.text l.d (flat (line_of (form_at 8 (scene_of l.numbers l.marks l.points l.starts l.owners))) (drop l.k l.listed))
