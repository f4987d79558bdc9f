-- What the eye test's answers say of the best hit. Assumes nothing.
use mathlib.Core.Path.{◌≡◌, refl}
use mathlib.Core.Bool.{Bool, true, false, not, cond}
use Prim.Native.Nat.{ℕ}
use native.Mathlib.Omega.{arith}
use lib.Dec.{T}
use lib.Ieee.{Float, eq, lt, le}
use Rattle.floats.specs.Arith.{zero_f}
use Rattle.floats.proofs.Order.{le-not-gt}
use Rattle.geometry.specs.Vectors.{distance_of}
use Rattle.geometry.specs.declared.vector.Vector.{Vector}
use Rattle.geometry.specs.declared.ray.Ray.{Ray}
use Rattle.refusals.specs.declared.Refusal.{Refusal}
use Rattle.tree_walk.specs.declared.Nearest.{Nearest}
use Rattle.tree_sight.specs.declared.Sight.TheVariants.{Visible, Hidden}
use Rattle.tree_sight.specs.Sights.{eye_ray, by_distance, sees, Answered}
use Rattle.std.specs.Prelude.{Err, Ok, Result}
use Rattle.tree_sight.specs.declared.Sight.{Sight}

visible≢hidden : ◌≡◌ {A = Result Sight Refusal} (Ok Visible) (Ok Hidden) → ⊥
visible≢hidden e = let z : ◌≡◌ {A = ℕ} 0 1 = cc in omega arith

refused≢hidden : (n : Refusal) → Err n ≡ Ok Hidden → ⊥
refused≢hidden n e = let z : ◌≡◌ {A = ℕ} 0 1 = cc in omega arith

module _ (nearest : Ray → Result Nearest Refusal) (eye point : Vector) where
  abbrev d : Float
  d = distance_of eye point

  -- where it is answered, away from the eye, there is a best
  pub answered-best : T (not (eq (distance_of eye point) zero_f)) → Answered (sees nearest eye point) → (b : Nearest) × (nearest (eye_ray eye point) ≡ Ok b)
  unfolding sees by_distance
  answered-best z h = go (eq d zero_f) z (nearest (eye_ray eye point)) h
    where
      go : (k : Bool) → T (not k) → (a : Result Nearest Refusal) → Answered (cond k (Ok Visible) (by_distance a d)) → (b : Nearest) × (a ≡ Ok b)
      go true z a h = absurd z
      go false z (Ok b) h = (b, refl)
      go false z (Err n) h = absurd (h n refl)

  -- a best that falls short hides
  pub short-hidden : T (not (eq (distance_of eye point) zero_f)) → (b : Nearest) → nearest (eye_ray eye point) ≡ Ok b → T (lt b.hit.t (distance_of eye point)) → sees nearest eye point ≡ Ok Hidden
  unfolding sees by_distance
  short-hidden z b e l = rw e (go (eq d zero_f) z (le d b.hit.t) (λ q. le-not-gt d b.hit.t q l))
    where
      go : (k : Bool) → T (not k) → (m : Bool) → (T m → ⊥) → ◌≡◌ {A = Result Sight Refusal} (cond k (Ok Visible) (cond m (Ok Visible) (Ok Hidden))) (Ok Hidden)
      go true z m h = absurd z
      go false z true h = absurd (h tt)
      go false z false h = refl

  -- what is hidden has a best that does not reach the eye
  pub hidden-best : sees nearest eye point ≡ Ok Hidden → (b : Nearest) × (nearest (eye_ray eye point) ≡ Ok b) × T (not (le (distance_of eye point) b.hit.t))
  unfolding sees by_distance
  hidden-best h = go (eq d zero_f) (nearest (eye_ray eye point)) h
    where
      short : (m : Bool) → ◌≡◌ {A = Result Sight Refusal} (cond m (Ok Visible) (Ok Hidden)) (Ok Hidden) → T (not m)
      short true h = visible≢hidden h
      short false h = tt

      go : (k : Bool) (a : Result Nearest Refusal) → cond k (Ok Visible) (by_distance a d) ≡ Ok Hidden → (b : Nearest) × (a ≡ Ok b) × T (not (le d b.hit.t))
      go true a h = absurd (visible≢hidden h)
      go false (Ok b) h = (b, refl, short (le d b.hit.t) h)
      go false (Err n) h = absurd (refused≢hidden n h)

  -- a best that reaches the eye hides nothing
  pub reaching-visible : (b : Nearest) → nearest (eye_ray eye point) ≡ Ok b → T (le (distance_of eye point) b.hit.t) → sees nearest eye point ≡ Ok Visible
  unfolding sees by_distance
  reaching-visible b e l = rw e (go (eq d zero_f) (le d b.hit.t) l)
    where
      go : (k m : Bool) → T m → ◌≡◌ {A = Result Sight Refusal} (cond k (Ok Visible) (cond m (Ok Visible) (Ok Hidden))) (Ok Visible)
      go true m h = refl
      go false true h = refl
      go false false h = absurd h

-- the eye test asks for the nearest hit of one ray
pub sees-same : (f g : Ray → Result Nearest Refusal) (eye point : Vector) → f (eye_ray eye point) ≡ g (eye_ray eye point) → sees f eye point ≡ sees g eye point
unfolding sees
sees-same f g eye point e = rw e
