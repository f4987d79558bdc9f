-- The eye test with a name: the ways through it, and that it agrees with the one without. Assumes nothing.
use Prim.Native.Nat.{ℕ}
use mathlib.Core.Path.{◌≡◌, refl, sym, ap, subst, ◌∙◌}
use mathlib.Core.Bool.{Bool, true, false, cond}
use native.Mathlib.Omega.{arith}
use lib.Ieee.{Float, eq, le}
use Rattle.floats.specs.Arith.{zero_f}
use Rattle.geometry.specs.Vectors.{sub_v, div_scalar, length_of, distance_of}
use Rattle.geometry.specs.Rays.{ray_of}
use Rattle.geometry.specs.declared.vector.Vector.{Vector}
use Rattle.geometry.specs.declared.ray.Ray.{Ray}
use Rattle.limits.specs.Limits.{within_point}
use Rattle.check_scene.specs.Checks.{check_of}
use Rattle.refusals.specs.declared.Refusal.TheVariants.{View, Point}
use Rattle.tree_walk.specs.Walks.{walk_rows}
use Rattle.tree_walk.specs.declared.Nearest.{Nearest}
use Rattle.tree_sight.specs.Sights.{eye_ray, by_distance, sees}
use Rattle.tree_sight.specs.declared.Sight.TheVariants.{Visible, Hidden}
use Rattle.query_scene.specs.Queries.{own_hits, seen_after, visible_of, hider_by, hides, named_after, occluder_of, sight_of, NamedAsSeen}
use Rattle.std.specs.Prelude.{Err, None, Ok, Option, Result, Some}
use Rattle.refusals.specs.declared.Refusal.{Refusal}
use Rattle.tree_sight.specs.declared.Sight.{Sight}

-- ---- the code
module _ (a : Result Nearest Refusal) (b : Nearest) (d : Float) (e : a ≡ Ok b) where
  pub named-clear : le d b.hit.t ≡ true → Ok None ≡ hider_by a d
  unfolding hider_by
  named-clear h = rw (e, h)

  pub named-hidden : le d b.hit.t ≡ false → Ok (Some b.entry) ≡ hider_by a d
  unfolding hider_by
  named-hidden h = rw (e, h)

module _ (nearest : Ray → Result Nearest Refusal) (eye point v : Vector) (d : Float) (ev : v ≡ sub_v eye point) (ed : d ≡ length_of v) where
  away : d ≡ distance_of eye point
  unfolding distance_of
  away = ed ∙ ap length_of ev

  pub hides-near : eq d zero_f ≡ true → Ok None ≡ hides nearest eye point
  unfolding hides
  hides-near z = rw (sym (ap (λ (x : Float). eq x zero_f) away) ∙ z)

  pub hides-far : eq d zero_f ≡ false → (q : Vector) → q ≡ div_scalar v d → (r : Ray) → r ≡ ray_of point q → (a : Result Nearest Refusal) → a ≡ nearest r → (o : Result (Option ℕ) Refusal) → o ≡ hider_by a d
      → o ≡ hides nearest eye point
  unfolding hides eye_ray
  hides-far z q eq' r er a ea o eo =
      let z' : eq (distance_of eye point) zero_f ≡ false = sym (ap (λ (x : Float). eq x zero_f) away) ∙ z in
      rw (eo, ea, er, eq', ev, away, z')

-- ---- without the name
hider-seen : (a : Result Nearest Refusal) (d : Float) → sight_of (hider_by a d) ≡ by_distance a d
unfolding sight_of hider_by by_distance
hider-seen (Ok b) d = go (le d b.hit.t)
  where
    go : (k : Bool) → sight_of (cond k (Ok None) (Ok (Some b.entry))) ≡ cond k (Ok Visible) (Ok Hidden)
    go true = refl
    go false = refl
hider-seen (Err k) d = refl

pub hides-seen : (nearest : Ray → Result Nearest Refusal) (eye point : Vector) → sight_of (hides nearest eye point) ≡ sees nearest eye point
unfolding sight_of hides sees
hides-seen nearest eye point = go (eq (distance_of eye point) zero_f)
  where
    go : (k : Bool) → sight_of (cond k (Ok None) (hider_by (nearest (eye_ray eye point)) (distance_of eye point))) ≡ cond k (Ok Visible) (by_distance (nearest (eye_ray eye point)) (distance_of eye point))
    go true = refl
    go false = hider-seen (nearest (eye_ray eye point)) (distance_of eye point)

-- it asks for the nearest hit of one ray
pub hides-same : (f g : Ray → Result Nearest Refusal) (eye point : Vector) → f (eye_ray eye point) ≡ g (eye_ray eye point) → hides f eye point ≡ hides g eye point
unfolding hides
hides-same f g eye point e = rw e

-- where the point is hidden, the entry that its best names
pub hidden-named : (nearest : Ray → Result Nearest Refusal) (eye point : Vector) (b : Nearest) → nearest (eye_ray eye point) ≡ Ok b → sees nearest eye point ≡ Ok Hidden → hides nearest eye point ≡ Ok (Some b.entry)
unfolding hides hider_by sees by_distance
hidden-named nearest eye point b e h =
    rw e
    (go (eq (distance_of eye point) zero_f) (le (distance_of eye point) b.hit.t)
    (subst (λ (f : Result Nearest Refusal). cond (eq (distance_of eye point) zero_f) (Ok Visible) (by_distance f (distance_of eye point)) ≡ Ok Hidden) e h))
  where
    apart : ◌≡◌ {A = Result Sight Refusal} (Ok Visible) (Ok Hidden) → ⊥
    apart q = let z : ◌≡◌ {A = ℕ} 0 1 = cc in omega arith

    go : (k m : Bool) → ◌≡◌ {A = Result Sight Refusal} (cond k (Ok Visible) (cond m (Ok Visible) (Ok Hidden))) (Ok Hidden) → ◌≡◌ {A = Result (Option ℕ) Refusal} (cond k (Ok None) (cond m (Ok None) (Ok (Some b.entry)))) (Ok (Some b.entry))
    go true m q = absurd (apart q)
    go false true q = absurd (apart q)
    go false false q = refl

pub named-as-seen : NamedAsSeen
unfolding sight_of occluder_of named_after visible_of seen_after
named-as-seen s boxes marks order eye point = go (λ (r : Ray). walk_rows (own_hits s r) r boxes marks order) (check_of s) (within_point eye) (within_point point)
  where
    go : (nearest : Ray → Result Nearest Refusal) (v : Result ℕ Refusal) (j k : Bool)
        → sight_of (named_after v (cond j (cond k (hides nearest eye point) (Err Point)) (Err View))) ≡ seen_after v (cond j (cond k (sees nearest eye point) (Err Point)) (Err View))
    go nearest (Err n) j k = refl
    go nearest (Ok n) false k = refl
    go nearest (Ok n) true false = refl
    go nearest (Ok n) true true = hides-seen nearest eye point
