-- Document 02 (vi): operations 0 and 1 answer as document 01 says; 2 and 3 hit and miss where they do, and answer a hit's distance from the first origin.
use Rattle.std.specs.Prelude.{ℕ, zero, suc, ◌≡◌, Bool, true, false, not, ◌||◌, cond, Float, Err, Ok, Result}
use mathlib.Core.List.{List, [], ◌∷◌, foldl}
use Rattle.floats.specs.Arith.{◌⊕◌, zero_f, hundredth}
use Rattle.geometry.specs.Rays.{position}
use Rattle.geometry.specs.Hits.{is_ok}
use Rattle.geometry.specs.declared.vector.Vector.{Vector}
use Rattle.geometry.specs.declared.ray.Ray.{Ray}
use Rattle.refusals.specs.declared.Refusal.TheVariants.{Restarts}
use Rattle.scene.specs.declared.entry.Op.{Op}
use Rattle.scene.specs.declared.entry.Op.TheVariants.{Intersection, Difference, TrueIntersection, TrueDifference}
use Rattle.scene_shape.specs.Cuts.{both, restarted, cut_contains}
use Rattle.scene_shape.specs.Shapes.{Shape, cut, shape_hit, shape_contains}
use Rattle.geometry.specs.declared.hit.Hit.{Hit}
use Rattle.refusals.specs.declared.Refusal.{Refusal}

-- document 01's cut: a rejected hit restarts the ray at t + 0.01, and the answer is the t of the last ray, not the distance from the first origin
unfoldable pub last_or : (Ray → Result Hit Refusal) → (Vector → Bool) → Ray → Result Hit Refusal → Result Hit Refusal
last_or again inside r (Err n) = Err n
last_or again inside r (Ok h) = cond (not (is_ok h) || inside (position r h.t)) (Ok h) (again (restarted r h.t))

-- with so many restarts left
unfoldable pub last_from : ℕ → (Ray → Result Hit Refusal) → (Ray → Result Hit Refusal) → (Vector → Bool) → Ray → Result Hit Refusal
last_from zero a b inside r = last_or (λ _. Err Restarts) inside r (both (a r) (b r))
last_from (suc n) a b inside r = last_or (last_from n a b inside) inside r (both (a r) (b r))

abbrev pub last_hit : Op → Shape → Shape → Ray → Result Hit Refusal
last_hit o a b = last_from 64 (shape_hit a) (shape_hit b) (cut_contains o (shape_contains a) (shape_contains b))

-- Operations 0 and 1 give document 01's hit.
pub record LastRay (a b : Shape) (r : Ray) : Type 0 where
  pub intersection : shape_hit (cut Intersection a b) r ≡ last_hit Intersection a b r
  pub difference : shape_hit (cut Difference a b) r ≡ last_hit Difference a b r

-- ---- the distance from the first origin
-- the t of each hit that a cut rejects, in order, with so many restarts left
unfoldable pub rejected_or : (Ray → List Float) → (Vector → Bool) → Ray → Result Hit Refusal → List Float
rejected_or again inside r (Err n) = []
rejected_or again inside r (Ok h) = cond (not (is_ok h) || inside (position r h.t)) [] (h.t ∷ again (restarted r h.t))

unfoldable pub rejected_from : ℕ → (Ray → Result Hit Refusal) → (Ray → Result Hit Refusal) → (Vector → Bool) → Ray → List Float
rejected_from zero a b inside r = rejected_or (λ _. []) inside r (both (a r) (b r))
rejected_from (suc n) a b inside r = rejected_or (rejected_from n a b inside) inside r (both (a r) (b r))

abbrev pub rejected_hits : Op → Shape → Shape → Ray → List Float
rejected_hits o a b = rejected_from 64 (shape_hit a) (shape_hit b) (cut_contains o (shape_contains a) (shape_contains b))

-- "the sum of (t + 0.01) over all restarts in order"
unfoldable pub restart_sum : List Float → Float
restart_sum ts = foldl (λ (sum t : Float). sum ⊕ (t ⊕ hundredth)) zero_f ts

-- ".. then plus the last t; where the last is a miss (ok false), it is returned unchanged"
unfoldable pub plus_restarts : List Float → Result Hit Refusal → Result Hit Refusal
plus_restarts ts (Ok h) = Ok (cond h.ok (record { t = restart_sum ts ⊕ h.t; ok = true }) h)
plus_restarts ts (Err k) = Err k

-- Of the same parts, operation 2 answers what 0 does, and 3 what 1 does, with that sum over the hits rejected on the way.
pub record TrueDistance (a b : Shape) (r : Ray) : Type 0 where
  pub intersection : shape_hit (cut TrueIntersection a b) r ≡ plus_restarts (rejected_hits Intersection a b r) (shape_hit (cut Intersection a b) r)
  pub difference : shape_hit (cut TrueDifference a b) r ≡ plus_restarts (rejected_hits Difference a b r) (shape_hit (cut Difference a b) r)

-- the same answer but for the t of a hit; a miss, or a refusal, is the same
abbrev pub ButForDistance : Result Hit Refusal → Result Hit Refusal → Type 0
ButForDistance (Ok h) (Ok g) = (h.ok ≡ g.ok) × (h.ok ≡ false → h ≡ g)
ButForDistance (Ok h) (Err k) = ⊥
ButForDistance (Err k) (Ok g) = ⊥
ButForDistance (Err k) (Err m) = k ≡ m

-- So operation 2 answers as 0 and 3 as 1, but for the distance of a hit.
pub record TrueCutAlike (a b : Shape) (r : Ray) : Type 0 where
  pub intersection : ButForDistance (shape_hit (cut Intersection a b) r) (shape_hit (cut TrueIntersection a b) r)
  pub difference : ButForDistance (shape_hit (cut Difference a b) r) (shape_hit (cut TrueDifference a b) r)
