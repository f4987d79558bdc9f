-- The answers of the calls, after the verdict on the scene. Assumes nothing.
use Prim.Native.Nat.{ℕ}
use mathlib.Core.Path.{◌≡◌, ap, fun_ext, ◌∙◌}
use mathlib.Core.List.{List, []}
use mathlib.Core.Bool.{Bool, true, false}
use lib.Ieee.{Float}
use Rattle.floats.specs.Arith.{zero_f}
use Rattle.geometry.specs.declared.vector.Vector.{Vector}
use Rattle.geometry.specs.declared.ray.Ray.{Ray}
use Rattle.rows.specs.Rows.{flat, padded}
use Rattle.refusals.specs.declared.Refusal.{Refusal}
use Rattle.refusals.specs.declared.Refusal.TheVariants.{View, Point}
use Rattle.scene_shape.specs.Shapes.{Shape, shape_hit}
use Rattle.limits.specs.Limits.{within_point, within_ray}
use Rattle.check_parts.specs.Drawn.{drawn}
use Rattle.tree_split.specs.Build.{box_at}
use Rattle.tree_walk.specs.Walks.{entry_hit, walk_rows}
use Rattle.tree_sight.specs.Sights.{sees}
use Rattle.tree_sight.specs.declared.Sight.{Sight}
use Rattle.check_scene.specs.Checks.{check_of, inverses_of}
use Rattle.scene.specs.Scenes.{Scene}
use Rattle.check_scene.proofs.Accepted.{own-solid}
use Rattle.query_scene.specs.Queries.{boxes_left, built_after, planted_of, build_of, if_built, TreeLeft, own_hits, found_after, intersect_of, seen_after, visible_of, hides, named_after, occluder_of}
use Rattle.std.specs.Prelude.{Err, Ok, Option, Result}
use Rattle.geometry.specs.declared.hit.Hit.{Hit}
use Rattle.tree_walk.specs.declared.Nearest.{Nearest}

-- ---- a refused scene
module _ (s : Scene) (k : Refusal) (is : check_of s ≡ Err k) where
  pub build-refused : (places B M O : ℕ) {bs : List Float} {ms os : List ℕ} → bs ≡ padded zero_f B [] → ms ≡ padded 0 M [] → os ≡ padded 0 O []
      → TreeLeft (box_at (boxes_left s)) (drawn s.marks) B M O (build_of s places O) (Err k) bs ms os
  unfolding build_of built_after if_built flat
  build-refused places B M O a b c = record { answer = rw is; boxes_are = a; marks_are = b; order_is = c }

  pub intersect-refused : (bs : List Float) (ms os : List ℕ) (r : Ray) → Err k ≡ intersect_of s bs ms os r
  unfolding intersect_of found_after
  intersect-refused bs ms os r = rw is

  pub visible-refused : (bs : List Float) (ms os : List ℕ) (eye point : Vector) → Err k ≡ visible_of s bs ms os eye point
  unfolding visible_of seen_after
  visible-refused bs ms os eye point = rw is

  pub occluder-refused : (bs : List Float) (ms os : List ℕ) (eye point : Vector) → Err k ≡ occluder_of s bs ms os eye point
  unfolding occluder_of named_after
  occluder-refused bs ms os eye point = rw is

-- ---- an accepted one
module _ (s : Scene) (n : ℕ) (is : check_of s ≡ Ok n) where
  -- the tree of the boxes and of the drawn entries that the check left
  pub build-is : (places B M O : ℕ) (xs : List Float) (ids : List ℕ) → xs ≡ boxes_left s → ids ≡ drawn s.marks → {r : Result ℕ Refusal} {bs : List Float} {ms os : List ℕ}
      → TreeLeft (box_at xs) ids B M O (planted_of (box_at xs) ids places O) r bs ms os → TreeLeft (box_at (boxes_left s)) (drawn s.marks) B M O (build_of s places O) r bs ms os
  unfolding build_of built_after
  build-is places B M O xs ids ex ed l = rw (is, ← ex, ← ed) l

  -- with the inverses that it left, the walk meets the scene's own solids
  module _ (L : ℕ) (vs : List Float) (left : vs ≡ padded zero_f L (inverses_of s)) (bs : List Float) (ms os : List ℕ) where
    pub hits-are : (r : Ray) → entry_hit s.numbers vs s.marks r ≡ own_hits s r
    unfolding entry_hit
    hits-are r = fun_ext (λ (i : ℕ). ap (λ (x : Shape). shape_hit x r) (own-solid s n is L vs left i))

    walk_is : (r : Ray) → walk_rows (entry_hit s.numbers vs s.marks r) r bs ms os ≡ walk_rows (own_hits s r) r bs ms os
    walk_is r = ap (λ (hit : ℕ → Result Hit Refusal). walk_rows hit r bs ms os) (hits-are r)

    pub intersect-is : (r : Ray) {b : Bool} → b ≡ within_ray r → b ≡ true → {f : Result Nearest Refusal} → f ≡ walk_rows (entry_hit s.numbers vs s.marks r) r bs ms os → f ≡ intersect_of s bs ms os r
    unfolding intersect_of found_after
    intersect-is r e t p = p ∙ walk_is r ∙ rw (is, ← e, t)

    module _ (eye point : Vector) {a : Bool} (ea : a ≡ within_point eye) (ta : a ≡ true) {b : Bool} (eb : b ≡ within_point point) where
      pub visible-is : b ≡ true → {h : Result Sight Refusal} → h ≡ sees (λ (r : Ray). walk_rows (entry_hit s.numbers vs s.marks r) r bs ms os) eye point → h ≡ visible_of s bs ms os eye point
      unfolding visible_of seen_after
      visible-is tb q = q ∙ ap (λ (w : Ray → Result Nearest Refusal). sees w eye point) (fun_ext walk_is) ∙ rw (is, ← ea, ta, ← eb, tb)

      pub occluder-is : b ≡ true → {o : Result (Option ℕ) Refusal} → o ≡ hides (λ (r : Ray). walk_rows (entry_hit s.numbers vs s.marks r) r bs ms os) eye point → o ≡ occluder_of s bs ms os eye point
      unfolding occluder_of named_after
      occluder-is tb q = q ∙ ap (λ (w : Ray → Result Nearest Refusal). hides w eye point) (fun_ext walk_is) ∙ rw (is, ← ea, ta, ← eb, tb)

  pub ray-refused : (bs : List Float) (ms os : List ℕ) (r : Ray) {b : Bool} → b ≡ within_ray r → b ≡ false → Err View ≡ intersect_of s bs ms os r
  unfolding intersect_of found_after
  ray-refused bs ms os r e f = rw (is, ← e, f)

  module _ (bs : List Float) (ms os : List ℕ) (eye point : Vector) {a : Bool} (ea : a ≡ within_point eye) where
    pub eye-refused : a ≡ false → Err View ≡ visible_of s bs ms os eye point
    unfolding visible_of seen_after
    eye-refused f = rw (is, ← ea, f)

    pub point-refused : a ≡ true → {b : Bool} → b ≡ within_point point → b ≡ false → Err Point ≡ visible_of s bs ms os eye point
    unfolding visible_of seen_after
    point-refused t eb f = rw (is, ← ea, t, ← eb, f)

    pub eye-unnamed : a ≡ false → Err View ≡ occluder_of s bs ms os eye point
    unfolding occluder_of named_after
    eye-unnamed f = rw (is, ← ea, f)

    pub point-unnamed : a ≡ true → {b : Bool} → b ≡ within_point point → b ≡ false → Err Point ≡ occluder_of s bs ms os eye point
    unfolding occluder_of named_after
    point-unnamed t eb f = rw (is, ← ea, t, ← eb, f)
