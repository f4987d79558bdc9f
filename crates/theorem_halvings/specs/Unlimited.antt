-- The limit on halvings is not to be seen: with any larger one a chop, the public call and a draw answer the same.
use Rattle.std.specs.Prelude.{◌≡◌, true, cond, ◌&&◌, List, [], ◌∷◌, ℕ, ◌+◌, length, Float, Err, Ok, Result}
use Rattle.geometry.specs.declared.vector.Vector.{Vector}
use Rattle.geometry.specs.declared.bounding_box.BBox.{BBox}
use Rattle.refusals.specs.declared.Refusal.TheVariants.{View as BadView}
use Rattle.scene.specs.Scenes.{Scene}
use Rattle.scene_shape.specs.Shapes.{Shape, shape_box}
use Rattle.check_parts.specs.Drawn.{drawn}
use Rattle.check_scene.specs.Checks.{check_of}
use Rattle.paths.specs.Answers.{next}
use Rattle.paths.specs.Paths.{Paths, no_paths}
use Rattle.paths.specs.Judged.{points_ok}
use Rattle.view.specs.Views.{view_ok, viewport, args_of}
use Rattle.view.specs.declared.View.{View}
use Rattle.view.specs.declared.RenderArgs.{RenderArgs}
use Rattle.path_rdp.specs.Rdp.{threshold_ok}
use Rattle.path_append.specs.Append.{appended}
use Rattle.path_chop.specs.Chop.{most_halvings, chop_upto, call_upto, chop_paths, chop_call}
use Rattle.draw_cuts.specs.Cuts.{cut_paths}
use Rattle.draw_arcs.specs.Stances.{Placement, unplaced, placed_part}
use Rattle.draw_collect.specs.Lined.{Lined, no_lines, lined, placed_lines, cut_lines, bare}
use Rattle.draw_collect.specs.Collect.{LineRoom, moved_from, handed, collected}
use Rattle.draw_render.specs.Render.{Places, stepping, seen_lines, simplified_lines, mapped}
use Rattle.draw.specs.Draw.{lined_in, drawn_after, draw_with}
use Rattle.refusals.specs.declared.Refusal.{Refusal}

-- of points that pass number 9
abbrev pub ChopUnlimited : Type 0
ChopUnlimited =
    (k : ℕ) (a : RenderArgs) (vs : List Vector) (ss : List ℕ) (room startRoom : ℕ) → points_ok vs ≡ true
    → chop_upto (k + most_halvings) a vs ss room startRoom ≡ chop_paths a vs ss room startRoom

-- the public call, on every input
abbrev pub CallUnlimited : Type 0
CallUnlimited = (k : ℕ) (v : View) (xs : List Float) (ss : List ℕ) (room startRoom : ℕ) → call_upto (k + most_halvings) v xs ss room startRoom ≡ chop_call v xs ss room startRoom

-- ---- a draw with another chop in place of its own: of the lines of cuts, and of all lines
abbrev pub Chopper : Type 0
Chopper = RenderArgs → ℕ → ℕ → Paths → Result Paths Refusal

unfoldable pub collected_by : Chopper → Placement → LineRoom → Lined → Paths → Result Paths Refusal
collected_by chop t w no_lines p = collected t w no_lines p
collected_by chop t w (lined s ps) p = collected t w (lined s ps) p
collected_by chop t w (placed_lines m v x) p = next (collected_by chop (placed_part m v t) w x p) (λ (q : Paths). Ok (moved_from m (length p.vertices) q))
collected_by chop t w (cut_lines o x y) p =
    next (next (collected_by chop t w x no_paths) (collected_by chop t w y))
    (λ (q : Paths). next (next (chop t.args w.chopped w.begins q)
    (λ (c : Paths). cut_paths (bare (cut_lines o x y)) c.vertices c.starts w.points w.starts)) (appended w.points w.starts p))

unfoldable pub collected_all_by : Chopper → RenderArgs → LineRoom → (ℕ → Lined) → List ℕ → Paths → Result Paths Refusal
collected_all_by chop a w at [] p = Ok p
collected_all_by chop a w at (i ∷ is) p = next (collected_by chop (unplaced a) w (at i) p) (collected_all_by chop a w at is)

unfoldable pub rendered_by : Chopper → Float → View → Places → (ℕ → Lined) → (ℕ → BBox) → List ℕ → Result Paths Refusal
rendered_by chop t v w at box ids =
    let solid : ℕ → Shape = λ (i : ℕ). bare (at i) in
    next (collected_all_by chop (args_of v) w.lines at ids no_paths)
    (λ (p : Paths). next
    (cond (stepping v)
    (next (chop (args_of v) w.lines.chopped w.lines.begins p)
    (λ (q : Paths). next (seen_lines v w.nodes w.order solid box ids w.lines.points w.lines.starts q) (simplified_lines t w.points w.starts)))
    (seen_lines v w.nodes w.order solid box ids w.points w.starts p))
    (λ (s : Paths). Ok (mapped (viewport v.width v.height) s)))

unfoldable pub draw_by : Chopper → Float → Scene → View → Places → Result Paths Refusal
draw_by chop t s v w =
    drawn_after (check_of s)
    (cond (view_ok v && threshold_ok t) (rendered_by chop t v w (lined_in s) (λ (i : ℕ). shape_box (bare (lined_in s i))) (drawn s.marks)) (Err BadView))

-- the chop of a draw with at most n halvings one inside another: of lines that are judged by number 9
unfoldable pub chopped_upto : ℕ → Chopper
chopped_upto n a room startRoom p = next (handed p) (λ (q : Paths). chop_upto n a q.vertices q.starts room startRoom)

-- a draw with any threshold, on every input; with 37 itself, where k is 0, `draw_by` is the draw
abbrev pub DrawUnlimited : Type 0
DrawUnlimited = (k : ℕ) (t : Float) (s : Scene) (v : View) (w : Places) → draw_by (chopped_upto (k + most_halvings)) t s v w ≡ draw_with t s v w
