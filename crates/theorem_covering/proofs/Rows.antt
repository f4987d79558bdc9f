-- The walk and the eye test of the public calls on the rows that a build leaves of a scene: those of the scene's tree.
use Prim.Native.Nat.{ℕ, ◌<◌}
use mathlib.Core.Path.{◌≡◌, refl, ap, subst, ◌∙◌}
use mathlib.Core.List.{List, []}
use mathlib.Core.Bool.{Bool, true, false, cond}
use lib.ListN.{length}
use lib.Ieee.{Float}
use Rattle.geometry.specs.declared.vector.Vector.{Vector}
use Rattle.geometry.specs.declared.ray.Ray.{Ray}
use Rattle.rows.specs.Rows.{flat, padded}
use Rattle.refusals.specs.declared.Refusal.TheVariants.{View, Point}
use Rattle.scene_shape.specs.Shapes.{shape_hit, solid_of}
use Rattle.limits.specs.Limits.{within_point, within_ray}
use Rattle.check_parts.specs.Drawn.{drawn}
use Rattle.check_parts.proofs.Parts.{never}
use Rattle.check_scene.specs.Checks.{check_of}
use Rattle.scene.specs.Scenes.{Scene}
use Rattle.tree_split.specs.Build.{box_at, nodes_for}
use Rattle.tree_build.proofs.BuiltTree.{sensible-tree}
use Rattle.tree_build.proofs.Whole.{nodes-some, order-some}
use Rattle.tree_walk.specs.Walks.{nothing, visit, walk_rows}
use Rattle.tree_walk.specs.declared.Nearest.{Nearest}
use Rattle.tree_walk.proofs.Visits.{refused≢best}
use Rattle.tree_walk.proofs.Layouts.{walk_of-layout, walk_of-zeros}
use Rattle.tree_sight.specs.Sights.{eye_ray, sees, Answered}
use Rattle.tree_sight.proofs.Answers.{sees-same}
use Rattle.theorem_hiding.specs.Covers.{sees_past}
use Rattle.query_scene.specs.Queries.{boxes_left, scene_tree, built_after, build_of, own_hits, found_after, intersect_of, seen_after, visible_of, hides, named_after, occluder_of}
use Rattle.theorem_covering.specs.Scenes.{BuiltRows}
use Rattle.std.specs.Prelude.{Err, Ok, Result}
use Rattle.refusals.specs.declared.Refusal.{Refusal}

-- ---- a scene whose build answers is accepted
abbrev is_nodes : Result ℕ Refusal → Bool
is_nodes (Ok n) = true
is_nodes (Err k) = false

built-accepted : (v : Result ℕ Refusal) (b : Result ℕ Refusal) (c : ℕ) → built_after v b ≡ Ok c → (n : ℕ) × (v ≡ Ok n)
unfolding built_after
built-accepted (Ok n) b c e = (n, refl)
built-accepted (Err k) b c e = never (ap is_nodes e)

module _ (s : Scene) (nodeBoxes : List Float) (nodeMarks order : List ℕ) (R : BuiltRows s nodeBoxes nodeMarks order) where
  pub accepted-scene : (n : ℕ) × (check_of s ≡ Ok n)
  unfolding build_of
  accepted-scene = built-accepted (check_of s) _ R.count R.answered

  -- ---- the walk of those rows
  -- with solids it is that of the scene's tree
  pub walk-tree : 0 < length (drawn s.marks) → (r : Ray) → walk_rows (own_hits s r) r nodeBoxes nodeMarks order ≡ visit (own_hits s r) r (scene_tree s) 0 nothing
  walk-tree some r =
      rw (R.boxes_are, R.marks_are, R.order_is, nodes-some (box_at (boxes_left s)) (drawn s.marks) some, order-some (box_at (boxes_left s)) (drawn s.marks) some)
      (walk_of-layout (own_hits s r) r (scene_tree s) (sensible-tree (box_at (boxes_left s)) (drawn s.marks) some) R.B R.M R.O)

  -- without, nothing is hit
  pub walk-nothing : drawn s.marks ≡ [] → (r : Ray) → walk_rows (own_hits s r) r nodeBoxes nodeMarks order ≡ Ok nothing
  unfolding nodes_for flat
  walk-nothing none r =
      let e : nodeMarks ≡ padded 0 R.M [] = R.marks_are ∙ rw none in
      rw e (walk_of-zeros (own_hits s r) r nodeBoxes R.M order)

  -- ---- the eye test on them
  pub sees-tree : 0 < length (drawn s.marks) → (eye point : Vector)
      → sees (λ (r : Ray). walk_rows (own_hits s r) r nodeBoxes nodeMarks order) eye point ≡ sees_past shape_hit (solid_of s.numbers s.marks) (scene_tree s) eye point
  sees-tree some eye point = sees-same _ _ eye point (walk-tree some (eye_ray eye point))

  pub sees-nothing : drawn s.marks ≡ [] → (eye point : Vector)
      → sees (λ (r : Ray). walk_rows (own_hits s r) r nodeBoxes nodeMarks order) eye point ≡ sees (λ (r : Ray). Ok nothing) eye point
  sees-nothing none eye point = sees-same _ _ eye point (walk-nothing none (eye_ray eye point))

  -- ---- the nearest hit that the public call answers is the walk's
  pub intersect-walks : (r : Ray) (b : Nearest) → intersect_of s nodeBoxes nodeMarks order r ≡ Ok b → walk_rows (own_hits s r) r nodeBoxes nodeMarks order ≡ Ok b
  unfolding intersect_of found_after
  intersect-walks r b e = go (within_ray r) (subst (λ (v : Result ℕ Refusal). found_after v (cond (within_ray r) (walk_rows (own_hits s r) r nodeBoxes nodeMarks order) (Err View)) ≡ Ok b) accepted-scene.1 e)
    where
      go : (k : Bool) → cond k (walk_rows (own_hits s r) r nodeBoxes nodeMarks order) (Err View) ≡ Ok b → walk_rows (own_hits s r) r nodeBoxes nodeMarks order ≡ Ok b
      go true q = q
      go false q = absurd (refused≢best View b q)

-- ---- where the eye test is answered, or says no, the tests before it have passed
module _ (s : Scene) (n : ℕ) (is : check_of s ≡ Ok n) (nodeBoxes : List Float) (nodeMarks order : List ℕ) (eye point : Vector) where
  go-answered : (a b : Bool) → within_point eye ≡ a → within_point point ≡ b → Answered (visible_of s nodeBoxes nodeMarks order eye point)
      → visible_of s nodeBoxes nodeMarks order eye point ≡ sees (λ (r : Ray). walk_rows (own_hits s r) r nodeBoxes nodeMarks order) eye point
  unfolding visible_of seen_after
  go-answered true true ea eb h = rw (is, ea, eb)
  go-answered true false ea eb h = absurd (h Point (rw (is, ea, eb)))
  go-answered false b ea eb h = absurd (h View (rw (is, ea)))

  pub visible-sees : Answered (visible_of s nodeBoxes nodeMarks order eye point) → visible_of s nodeBoxes nodeMarks order eye point ≡ sees (λ (r : Ray). walk_rows (own_hits s r) r nodeBoxes nodeMarks order) eye point
  visible-sees h = go-answered (within_point eye) (within_point point) refl refl h

  go_named : (a b : Bool) → within_point eye ≡ a → within_point point ≡ b → Answered (visible_of s nodeBoxes nodeMarks order eye point)
      → occluder_of s nodeBoxes nodeMarks order eye point ≡ hides (λ (r : Ray). walk_rows (own_hits s r) r nodeBoxes nodeMarks order) eye point
  unfolding visible_of seen_after occluder_of named_after
  go_named true true ea eb h = rw (is, ea, eb)
  go_named true false ea eb h = absurd (h Point (rw (is, ea, eb)))
  go_named false b ea eb h = absurd (h View (rw (is, ea)))

  pub occluder-hides : Answered (visible_of s nodeBoxes nodeMarks order eye point) → occluder_of s nodeBoxes nodeMarks order eye point ≡ hides (λ (r : Ray). walk_rows (own_hits s r) r nodeBoxes nodeMarks order) eye point
  occluder-hides h = go_named (within_point eye) (within_point point) refl refl h
