-- The public call against `visible`: the proofs.
use Prim.Native.Nat.{ℕ}
use mathlib.Core.Path.{◌≡◌, refl, ap}
use mathlib.Core.Bool.{Bool, true, false, cond}
use mathlib.Core.List.{List}
use native.Mathlib.Omega.{arith}
use lib.Dec.{T}
use lib.Ieee.{Float, lt}
use Rattle.geometry.specs.Limits.{Within}
use Rattle.geometry.specs.Vectors.{distance_of}
use Rattle.geometry.specs.declared.hit.Hit.{Hit}
use Rattle.geometry.specs.declared.ray.Ray.{Ray}
use Rattle.geometry.specs.declared.vector.Vector.{Vector}
use Rattle.refusals.specs.declared.Refusal.{Refusal}
use Rattle.refusals.specs.declared.Refusal.TheVariants.{View, Point}
use Rattle.limits.specs.Limits.{within_point}
use Rattle.limits.proofs.Limits.{within-point}
use Rattle.scene.specs.Scenes.{Scene}
use Rattle.check_scene.specs.Checks.{check_of}
use Rattle.tree_walk.specs.Walks.{walk_rows}
use Rattle.tree_sight.specs.Sights.{eye_ray, sees}
use Rattle.tree_sight.specs.declared.Sight.{Sight}
use Rattle.tree_sight.specs.declared.Sight.TheVariants.{Visible, Hidden}
use Rattle.tree_cover.specs.Seeking.{seek_rows, covered_by}
use Rattle.tree_cover.specs.Agreeing.{SameOrHidden, or_short, or_hidden}
use Rattle.tree_cover.proofs.Sighting.{covered-agrees, covered-ends, no-only-if-short}
use Rattle.query_scene.specs.Queries.{own_hits, seen_after, visible_of}
use Rattle.query_cover.specs.Covered.{covered_past, covered_of}
use Rattle.query_cover.specs.Promise.{CoveredLikeVisible, CoveredOnlyIfShort, visible_but_for, OnlyDeparture}
use Rattle.std.specs.Prelude.{Err, Ok, Result}

module _ (s : Scene) (boxes : List Float) (marks order : List ℕ) (eye point : Vector) where
  abbrev stopping : Result Sight Refusal
  stopping = covered_by (λ (d : Float) (r : Ray). seek_rows d (own_hits s r) r boxes marks order) eye point

  abbrev full : Result Sight Refusal
  full = sees (λ (r : Ray). walk_rows (own_hits s r) r boxes marks order) eye point

  -- after the numbers 2 to 9
  like-after : (v : Result ℕ Refusal) (a b : Bool) → (a ≡ true → Within eye) → (b ≡ true → Within point)
      → SameOrHidden (seen_after v (cond a (cond b stopping (Err Point)) (Err View))) (seen_after v (cond a (cond b full (Err Point)) (Err View)))
  unfolding seen_after
  like-after (Err k) a b f g = refl
  like-after (Ok n) false b f g = refl
  like-after (Ok n) true false f g = refl
  like-after (Ok n) true true f g = covered-agrees (own_hits s) boxes marks order eye point (f refl) (g refl)

  departs-after : (k : Refusal) (v : Result ℕ Refusal) (a b : Bool) → (a ≡ true → Within eye) → (b ≡ true → Within point)
      → or_hidden k (seen_after v (cond a (cond b stopping (Err Point)) (Err View)))
      ≡ seen_after v (cond a (cond b (sees (λ (r : Ray). walk_rows (λ (i : ℕ). or_short k (distance_of eye point) (own_hits s r i)) r boxes marks order) eye point) (Err Point)) (Err View))
  unfolding seen_after or_hidden
  departs-after k (Err n) a b f g = refl
  departs-after k (Ok n) false b f g = refl
  departs-after k (Ok n) true false f g = refl
  departs-after k (Ok n) true true f g = covered-ends k (own_hits s) boxes marks order eye point (f refl) (g refl)

  abbrev Far : Type 0
  Far = (i : ℕ) × (h : Hit) × (own_hits s (eye_ray eye point) i ≡ Ok h) × T (lt h.t (distance_of eye point))

  abbrev is_no : Result Sight Refusal → ℕ
  is_no (Ok Visible) = 0
  is_no (Ok Hidden) = 1
  is_no (Err k) = 0

  refused-no : (k : Refusal) → Err k ≡ Ok Hidden → ⊥
  refused-no k e = let z : is_no (Err k) ≡ is_no (Ok Hidden) = ap is_no e in omega (arith, z)

  short-after : (v : Result ℕ Refusal) (a b : Bool) → seen_after v (cond a (cond b stopping (Err Point)) (Err View)) ≡ Ok Hidden → Far
  unfolding seen_after
  short-after (Err k) a b e = absurd (refused-no k e)
  short-after (Ok n) false b e = absurd (refused-no View e)
  short-after (Ok n) true false e = absurd (refused-no Point e)
  short-after (Ok n) true true e = no-only-if-short (own_hits s) boxes marks order eye point e

pub covered-like-visible : CoveredLikeVisible
unfolding covered_of covered_past visible_of
covered-like-visible s boxes marks order eye point =
    like-after s boxes marks order eye point (check_of s) (within_point eye) (within_point point) (within-point eye) (within-point point)

pub covered-only-if-short : CoveredOnlyIfShort
unfolding covered_of covered_past
covered-only-if-short s boxes marks order eye point e = short-after s boxes marks order eye point (check_of s) (within_point eye) (within_point point) e

pub only-departure : OnlyDeparture
unfolding covered_of covered_past visible_but_for
only-departure k s boxes marks order eye point =
    departs-after s boxes marks order eye point k (check_of s) (within_point eye) (within_point point) (within-point eye) (within-point point)
