-- The steps of a draw that is answered, each with its result.
use Rattle.std.specs.Prelude.{ℕ, ◌≤◌, ◌≡◌, true, cond, length, Float, Ok, Result}
use Rattle.geometry.specs.declared.vector.Vector.{Vector}
use Rattle.geometry.specs.declared.bounding_box.BBox.{BBox}
use Rattle.rows.specs.Starts.{rising}
use Rattle.scene_shape.specs.Shapes.{Shape, solid_of}
use Rattle.check_parts.specs.Drawn.{drawn}
use Rattle.check_scene.specs.Extents.{own_box}
use Rattle.check_scene.specs.Checks.{check_of}
use Rattle.scene.specs.Scenes.{Scene}
use Rattle.tree_sight.specs.declared.Sight.{Sight}
use Rattle.query_scene.specs.Queries.{planted_of}
use Rattle.paths.specs.Paths.{Paths, no_paths}
use Rattle.path_rdp.specs.Rdp.{threshold_ok}
use Rattle.view.specs.Views.{view_ok, viewport, args_of}
use Rattle.view.specs.declared.View.{View}
use Rattle.draw_clip.specs.Clip.{clip_paths}
use Rattle.draw_collect.specs.Collect.{chopped_lines, collected_all}
use Rattle.draw_render.specs.Render.{Places, stepping, seen_by, simplified_lines, mapped}
use Rattle.draw.specs.Draw.{lined_in, draw_with}
use Rattle.refusals.specs.declared.Refusal.{Refusal}

-- the solid at entry i of a scene, and document 01's own box of it
abbrev pub solid_in : Scene → ℕ → Shape
solid_in s = solid_of s.numbers s.marks

abbrev pub box_in : Scene → ℕ → BBox
box_in s = own_box s.numbers s.marks

-- document 01's visible, the eye test, on the tree that the build makes of the scene: what a draw's step 4 puts for each point
abbrev pub seen_in : Scene → Vector → Vector → Result Sight Refusal
seen_in s = seen_by (solid_in s) (box_in s) (drawn s.marks)

-- Document 01's answered, of a draw with the threshold t: the scene is drawn with the paths q, step by step. Step 2 and step 5 do nothing unless step > 0; then the filter has the room of the lines.
pub record Drawing (t : Float) (s : Scene) (v : View) (w : Places) (q : Paths) : Type 0 where
  -- numbers 2 to 8 and 14 are not met
  pub count : ℕ
  pub accepted : check_of s ≡ Ok count
  pub fair : view_ok v ≡ true
  pub threshold : threshold_ok t ≡ true
  -- 1. the lines of each drawn entry
  pub collected : Paths
  pub collects : collected_all (args_of v) w.lines (lined_in s) (drawn s.marks) no_paths ≡ Ok collected
  -- 2. chopped: the lines that are put to step 4
  pub lines : Paths
  pub chops : cond (stepping v) (chopped_lines (args_of v) w.lines.chopped w.lines.begins collected) (Ok collected) ≡ Ok lines
  -- 3. the tree has its places
  pub nodes : ℕ
  pub builds : planted_of (box_in s) (drawn s.marks) w.nodes w.order ≡ Ok nodes
  -- 4. each point filtered: what is left
  pub passed : Paths
  pub filters : clip_paths v.matrix (seen_in s v.eye) lines.vertices lines.starts (cond (stepping v) w.lines.points w.points) (cond (stepping v) w.lines.starts w.starts) ≡ Ok passed
  -- 5. simplified
  pub left : Paths
  pub simplifies : cond (stepping v) (simplified_lines t w.points w.starts passed) (Ok passed) ≡ Ok left
  -- 6. mapped by the viewport matrix
  pub maps : q ≡ mapped (viewport v.width v.height) left

-- A draw that is answered has been through the six steps.
abbrev pub DrawnSo : Type 0
DrawnSo = (t : Float) (s : Scene) (v : View) (w : Places) (q : Paths) → draw_with t s v w ≡ Ok q → Drawing t s v w q

-- No start of a drawing is beyond the next one, nor the last one beyond the points; and it has no more points and starts than places.
abbrev pub DrawingLaid : Type 0
DrawingLaid =
    (t : Float) (s : Scene) (v : View) (w : Places) (q : Paths) → Drawing t s v w q
    → (rising (length q.vertices) q.starts ≡ true) × (length q.vertices ≤ w.points) × (length q.starts ≤ w.starts)
