-- A drawing (`render` of scene.rs), line by line.
use Rattle.std.specs.Prelude.{Bool, cond, List, [], ◌∷◌, map, ℕ, Float, Err, Ok, Result}
use Rattle.std.specs.Float.Ieee.{lt}
use Rattle.floats.specs.Arith.{zero_f}
use Rattle.geometry.specs.declared.vector.Vector.{Vector}
use Rattle.geometry.specs.declared.ray.Ray.{Ray}
use Rattle.geometry.specs.declared.bounding_box.BBox.{BBox}
use Rattle.matrix.specs.Matrices.{mul_position}
use Rattle.matrix.specs.declared.Matrix.{Matrix}
use Rattle.scene_shape.specs.Shapes.{Shape, shape_hit}
use Rattle.tree_split.specs.Build.{tree_for}
use Rattle.tree_walk.specs.Walks.{nothing, visit}
use Rattle.tree_sight.specs.Sights.{sees}
use Rattle.tree_sight.specs.declared.Sight.{Sight}
use Rattle.query_scene.specs.Queries.{planted_of}
use Rattle.paths.specs.Answers.{next}
use Rattle.paths.specs.Paths.{Paths, paths_with, no_paths}
use Rattle.view.specs.Views.{viewport, args_of}
use Rattle.view.specs.declared.View.{View}
use Rattle.draw_clip.specs.Clip.{clip_paths}
use Rattle.path_simplify.specs.Simplify.{simplify_paths}
use Rattle.draw_collect.specs.Lined.{Lined, bare}
use Rattle.draw_collect.specs.Collect.{LineRoom, handed, chopped_lines, collected_all}
use Rattle.tree_walk.specs.declared.Nearest.{Nearest}
use Rattle.refusals.specs.declared.Refusal.{Refusal}

-- how many places there are for lines, for the nodes and the solids of a tree, and for the points and starts of the result
pub record Places : Type 0 where
  pub lines : LineRoom
  pub nodes : ℕ
  pub order : ℕ
  pub points : ℕ
  pub starts : ℕ

-- `if step > 0.0`
unfoldable pub stepping : View → Bool
stepping v = lt zero_f v.step

-- the nearest hit on the tree of some solids; a solid is a number, `solid` gives it, and `box` gives its box
unfoldable pub nearest_of : (ℕ → Shape) → (ℕ → BBox) → List ℕ → Ray → Result Nearest Refusal
nearest_of solid box [] r = Ok nothing
nearest_of solid box (i ∷ ids) r = visit (λ (k : ℕ). shape_hit (solid k) r) r (tree_for box (i ∷ ids)) 0 nothing

-- document 01's eye test of a draw: on the tree that the build makes of the scene
abbrev pub seen_by : (ℕ → Shape) → (ℕ → BBox) → List ℕ → Vector → Vector → Result Sight Refusal
seen_by solid box ids = sees (nearest_of solid box ids)

-- what is done with a tree, unless there is no room for it
unfoldable pub on_tree : Result ℕ Refusal → Result Paths Refusal → Result Paths Refusal
on_tree (Ok n) a = a
on_tree (Err k) a = Err k

-- steps 3 and 4: the tree is built, with so many places for nodes and solids, and each point filtered
unfoldable pub seen_lines : View → ℕ → ℕ → (ℕ → Shape) → (ℕ → BBox) → List ℕ → ℕ → ℕ → Paths → Result Paths Refusal
seen_lines v nodes order solid box ids room startRoom p =
    on_tree (planted_of box ids nodes order) (clip_paths v.matrix (seen_by solid box ids v.eye) p.vertices p.starts room startRoom)

-- step 5, with the threshold t
unfoldable pub simplified_lines : Float → ℕ → ℕ → Paths → Result Paths Refusal
simplified_lines t room startRoom p = next (handed p) (λ (q : Paths). simplify_paths t q.vertices q.starts room startRoom)

-- step 6 (`transform`)
unfoldable pub mapped : Matrix → Paths → Paths
mapped m p = paths_with (map (mul_position m) p.vertices) p.starts

-- Steps 2 to 5, on the lines that were collected. Each result has its own slice, so the filter's room is that of the last stage where nothing is simplified.
unfoldable pub staged : Float → View → Places → (ℕ → Shape) → (ℕ → BBox) → List ℕ → Paths → Result Paths Refusal
staged t v w solid box ids p =
    cond (stepping v)
    (next (chopped_lines (args_of v) w.lines.chopped w.lines.begins p)
    (λ (q : Paths). next (seen_lines v w.nodes w.order solid box ids w.lines.points w.lines.starts q) (simplified_lines t w.points w.starts)))
    (seen_lines v w.nodes w.order solid box ids w.points w.starts p)

-- all six; `lined` gives the drawn value of each solid
unfoldable pub rendered : Float → View → Places → (ℕ → Lined) → (ℕ → BBox) → List ℕ → Result Paths Refusal
rendered t v w lined box ids =
    next (collected_all (args_of v) w.lines lined ids no_paths)
    (λ (p : Paths). next (staged t v w (λ (i : ℕ). bare (lined i)) box ids p)
    (λ (s : Paths). Ok (mapped (viewport v.width v.height) s)))

-- the same with the lines of some solids only, `part`, while all of `ids` hide
unfoldable pub rendered_part : Float → View → Places → (ℕ → Lined) → (ℕ → BBox) → List ℕ → List ℕ → Result Paths Refusal
rendered_part t v w lined box ids part =
    next (collected_all (args_of v) w.lines lined part no_paths)
    (λ (p : Paths). next (staged t v w (λ (i : ℕ). bare (lined i)) box ids p)
    (λ (s : Paths). Ok (mapped (viewport v.width v.height) s)))
