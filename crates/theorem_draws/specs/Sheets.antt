-- Document 01's terms of demand 3 in a draw. The demand itself is `Demand3` (theorem_demand3/specs/Demand3.antt); what it rests on here is proved in
-- proofs/Sheets.antt.
use Rattle.std.specs.Prelude.{◌≡◌, List, Float, None, Ok}
use Rattle.geometry.specs.declared.vector.Vector.{Vector}
use Rattle.lists.specs.Lists.{Member}
use Rattle.scene.specs.Scenes.{Scene}
use Rattle.paths.specs.Paths.{Paths, paths_of}
use Rattle.view.specs.declared.View.{View}
use Rattle.draw_clip.specs.Clip.{clip_filter}
use Rattle.theorem_filters.specs.Passing.{LeftAfterClipping, Passed, DroppedAsHidden}
use Rattle.draw_render.specs.Render.{Places}
use Rattle.draw.specs.Drawing.{seen_in, Drawing}

-- a point among the lines that are put to step 4 of a draw
pub record Put {t : Float} {s : Scene} {v : View} {w : Places} {q : Paths} (D : Drawing t s v w q) (point : Vector) : Type 0 where
  pub path : List Vector
  pub among : Member path (paths_of D.lines.vertices D.lines.starts)
  pub on : Member point path

-- clipped away: the point is not left after clipping, and step 4 drops it
abbrev pub ClippedIn : Scene → View → Vector → Type 0
ClippedIn s v point = (LeftAfterClipping v.matrix point → ⊥) × (clip_filter v.matrix (seen_in s v.eye) point ≡ Ok None)

-- document 01's passes: step 4 passes the point, by the eye test on the tree of the scene
abbrev pub PassedIn : Scene → View → Vector → Type 0
PassedIn s v = Passed v.matrix (seen_in s v.eye)

-- document 01's dropped as hidden: the eye test says no
abbrev pub HiddenIn : Scene → View → Vector → Type 0
HiddenIn s v = DroppedAsHidden v.matrix (seen_in s v.eye)
