-- The eye test of a draw: on the tree of the scene, and as the public call answers it.
use Prim.Native.Nat.{ℕ, ◌<◌}
use mathlib.Core.Path.{◌≡◌, refl, sym, ap, ◌∙◌}
use mathlib.Core.Bool.{true}
use mathlib.Core.List.{List, [], ◌∷◌}
use native.Mathlib.Omega.{arith}
use lib.ListN.{length}
use lib.Ieee.{Float}
use Rattle.geometry.specs.declared.vector.Vector.{Vector}
use Rattle.geometry.specs.declared.ray.Ray.{Ray}
use Rattle.geometry.specs.declared.bounding_box.BBox.{BBox}
use Rattle.scene_shape.specs.Shapes.{Shape, shape_hit}
use Rattle.tree_nodes.specs.Trees.{Tree}
use Rattle.lists.specs.Lists.{Each}
use Rattle.lists.proofs.Properties.{each_map}
use Rattle.tree_split.specs.Build.{box_at, tree_for}
use Rattle.tree_split.proofs.Agreement.{same-tree}
use Rattle.limits.specs.Limits.{within_point}
use Rattle.check_parts.specs.Drawn.{drawn}
use Rattle.check_scene.specs.Checks.{check_of}
use Rattle.scene.specs.Scenes.{Scene}
use Rattle.tree_walk.specs.Walks.{nothing, visit, walk_rows}
use Rattle.tree_sight.specs.Sights.{eye_ray, sees}
use Rattle.tree_sight.proofs.Answers.{sees-same}
use Rattle.theorem_hiding.specs.Covers.{sees_past}
use Rattle.query_scene.specs.Queries.{boxes_left, scene_tree, planted_of, built_after, build_of, own_hits, seen_after, visible_of, hides, named_after, occluder_of}
use Rattle.query_scene.proofs.Names.{hides-same}
use Rattle.theorem_covering.specs.Scenes.{BuiltRows}
use Rattle.theorem_covering.proofs.Rows.{accepted-scene, walk-tree, walk-nothing, sees-tree, sees-nothing}
use Rattle.draw_render.specs.Render.{nearest_of}
use Rattle.draw.proofs.Bridge.{planted-alike, own-boxes}
use Rattle.draw.specs.Drawing.{solid_in, box_in, seen_in}
use Rattle.std.specs.Prelude.{Ok}

nearest-some : (solid : ℕ → Shape) (box : ℕ → BBox) (ids : List ℕ) (r : Ray) → 0 < length ids → nearest_of solid box ids r ≡ visit (λ (k : ℕ). shape_hit (solid k) r) r (tree_for box ids) 0 nothing
unfolding nearest_of
nearest-some solid box [] r h = absurd (omega arith)
nearest-some solid box (i ∷ ids) r h = refl

nearest-none : (solid : ℕ → Shape) (box : ℕ → BBox) (ids : List ℕ) (r : Ray) → ids ≡ [] → nearest_of solid box ids r ≡ Ok nothing
unfolding nearest_of
nearest-none solid box ids r h = rw h

-- a scene without drawn entries has no tree, and nothing is hit
pub seen_nothing : (s : Scene) → drawn s.marks ≡ [] → (eye point : Vector) → seen_in s eye point ≡ sees (λ (r : Ray). Ok nothing) eye point
seen_nothing s none eye point = sees-same _ _ eye point (nearest-none (solid_in s) (box_in s) (drawn s.marks) (eye_ray eye point) none)

module _ (s : Scene) (n : ℕ) (is : check_of s ≡ Ok n) where
  boxes-agree : Each (λ (i : ℕ). box_in s i ≡ box_at (boxes_left s) i) (drawn s.marks)
  boxes-agree = each_map (λ (i : ℕ). box_at (boxes_left s) i ≡ box_in s i) (λ (i : ℕ). box_in s i ≡ box_at (boxes_left s) i) (λ i e. sym e) (drawn s.marks) (own-boxes s n is 6144 (boxes_left s) refl)

  -- the tree of the own boxes is that which the build makes
  own-tree : tree_for (box_in s) (drawn s.marks) ≡ scene_tree s
  own-tree = same-tree (box_in s) (box_at (boxes_left s)) (drawn s.marks) boxes-agree

  -- and the public build answers as a draw's step 3 does
  pub build-alike : (places room : ℕ) → build_of s places room ≡ planted_of (box_in s) (drawn s.marks) places room
  unfolding build_of built_after
  build-alike places room = rw is (sym (planted-alike (box_in s) (box_at (boxes_left s)) (drawn s.marks) boxes-agree places room))

  pub nearest-tree : 0 < length (drawn s.marks) → (r : Ray) → nearest_of (solid_in s) (box_in s) (drawn s.marks) r ≡ visit (λ (k : ℕ). shape_hit (solid_in s k) r) r (scene_tree s) 0 nothing
  nearest-tree some r = nearest-some (solid_in s) (box_in s) (drawn s.marks) r some ∙ ap (λ (t : Tree ℕ). visit (λ (k : ℕ). shape_hit (solid_in s k) r) r t 0 nothing) own-tree

  pub seen-tree : 0 < length (drawn s.marks) → (eye point : Vector) → seen_in s eye point ≡ sees_past shape_hit (solid_in s) (scene_tree s) eye point
  seen-tree some eye point = sees-same _ _ eye point (nearest-tree some (eye_ray eye point))

-- What a draw's step 4 asks is what the public call `visible` answers on the rows that the public `build` leaves of the scene, where eye and point pass 8 and 9.
pub visible-is-seen : (s : Scene) (nodeBoxes : List Float) (nodeMarks order : List ℕ) → BuiltRows s nodeBoxes nodeMarks order → (eye point : Vector) → within_point eye ≡ true → within_point point ≡ true
    → visible_of s nodeBoxes nodeMarks order eye point ≡ seen_in s eye point
unfolding visible_of seen_after
visible-is-seen s nodeBoxes nodeMarks order R eye point ea eb = go (drawn s.marks) refl
  where
    acc : (n : ℕ) × (check_of s ≡ Ok n)
    acc = accepted-scene s nodeBoxes nodeMarks order R

    asked : visible_of s nodeBoxes nodeMarks order eye point ≡ sees (λ (r : Ray). walk_rows (own_hits s r) r nodeBoxes nodeMarks order) eye point
    asked = rw (acc.1, ea, eb)

    go : (l : List ℕ) → drawn s.marks ≡ l → visible_of s nodeBoxes nodeMarks order eye point ≡ seen_in s eye point
    go [] none = asked ∙ sees-nothing s nodeBoxes nodeMarks order R none eye point ∙ sym (seen_nothing s none eye point)
    go (i ∷ l) some =
        let h : 0 < length (drawn s.marks) = rw some (omega arith) in
        asked ∙ sees-tree s nodeBoxes nodeMarks order R h eye point ∙ sym (seen-tree s acc.0 acc.1 h eye point)

-- The same with the name: the public call `occluder` names whom the walk of a draw's step 4 names.
pub occluder-is-named : (s : Scene) (nodeBoxes : List Float) (nodeMarks order : List ℕ) → BuiltRows s nodeBoxes nodeMarks order → (eye point : Vector) → within_point eye ≡ true → within_point point ≡ true
    → occluder_of s nodeBoxes nodeMarks order eye point ≡ hides (nearest_of (solid_in s) (box_in s) (drawn s.marks)) eye point
unfolding occluder_of named_after
occluder-is-named s nodeBoxes nodeMarks order R eye point ea eb = asked ∙ hides-same _ _ eye point (go (drawn s.marks) refl)
  where
    acc : (n : ℕ) × (check_of s ≡ Ok n)
    acc = accepted-scene s nodeBoxes nodeMarks order R

    asked : occluder_of s nodeBoxes nodeMarks order eye point ≡ hides (λ (r : Ray). walk_rows (own_hits s r) r nodeBoxes nodeMarks order) eye point
    asked = rw (acc.1, ea, eb)

    go : (l : List ℕ) → drawn s.marks ≡ l
        → walk_rows (own_hits s (eye_ray eye point)) (eye_ray eye point) nodeBoxes nodeMarks order ≡ nearest_of (solid_in s) (box_in s) (drawn s.marks) (eye_ray eye point)
    go [] none = walk-nothing s nodeBoxes nodeMarks order R none (eye_ray eye point) ∙ sym (nearest-none (solid_in s) (box_in s) (drawn s.marks) (eye_ray eye point) none)
    go (i ∷ l) some =
        let h : 0 < length (drawn s.marks) = rw some (omega arith) in
        walk-tree s nodeBoxes nodeMarks order R h (eye_ray eye point) ∙ sym (nearest-tree s acc.0 acc.1 h (eye_ray eye point))
