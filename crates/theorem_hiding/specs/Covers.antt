-- Document 01's terms of demand 3 on hiding. A solid is of any type S: `box` gives its own box, that of number 7, and `hit` the hit that it gives a ray with no
-- tree and no other solid. A scene draws some entries, numbers to which `solid` gives their solids.
use Rattle.std.specs.Prelude.{◌≡◌, not, List, ℕ, T, Ok, Result}
use Rattle.std.specs.Float.Ieee.{eq, lt, le}
use Rattle.floats.specs.Arith.{zero_f}
use Rattle.geometry.specs.Vectors.{distance_of}
use Rattle.geometry.specs.Boxes.{box_test, passes}
use Rattle.geometry.specs.Limits.{Within, straight}
use Rattle.geometry.specs.declared.vector.Vector.{Vector}
use Rattle.geometry.specs.declared.ray.Ray.{Ray}
use Rattle.geometry.specs.declared.hit.Hit.{Hit}
use Rattle.geometry.specs.declared.bounding_box.BBox.{BBox}
use Rattle.tree_nodes.specs.Trees.{Tree}
use Rattle.tree_nodes.specs.Members.{Fine, BuiltOf}
use Rattle.lists.specs.Lists.{Member}
use Rattle.tree_walk.specs.Walks.{nothing, visit}
use Rattle.tree_sight.specs.Sights.{eye_ray, sees}
use Rattle.tree_sight.specs.declared.Sight.{Sight}
use Rattle.refusals.specs.declared.Refusal.{Refusal}

-- Document 01's falls short: the solid's own returned distance is < length, false at a NaN. Document 01's own returned distance is the t that its hit gives the ray
-- of the eye test, a miss's t included; where the hit meets number 11 there is none.
pub record ShortBy {S : Type 0} (hit : S → Ray → Result Hit Refusal) (s : S) (eye point : Vector) : Type 0 where
  pub own : Hit
  pub returned : hit s (eye_ray eye point) ≡ Ok own
  pub short : T (lt own.t (distance_of eye point))

-- Document 01's covers: a solid covers a point exactly when, on the ray from point to eye, its own box passes the test and is entered no later than its own returned
-- distance, and that distance falls short of the eye. No later is <=, false at a NaN.
pub record CoversBy {S : Type 0} (box : S → BBox) (hit : S → Ray → Result Hit Refusal) (s : S) (eye point : Vector) : Type 0 where
  pub falls : ShortBy hit s eye point
  pub passed : T (passes (box_test (box s) (eye_ray eye point)))
  pub no_later : T (le (box_test (box s) (eye_ray eye point)).tmin falls.own.t)

-- document 01's holds: the solid s is that of a drawn entry
abbrev pub Holds : {S : Type 0} → (ℕ → S) → List ℕ → S → Type 0
Holds solid entries s = (i : ℕ) × Member i entries × (solid i ≡ s)

-- a tree of the scene: the boxes are such as number 7 lets pass, and the tree is built of the entries, in whatever order
pub record TreeOf {S : Type 0} (box : S → BBox) (solid : ℕ → S) (entries : List ℕ) (tree : Tree ℕ) : Type 0 where
  pub fine : Fine (λ (i : ℕ). box (solid i)) entries
  pub built : BuiltOf (λ (i : ℕ). box (solid i)) entries tree

-- Document 01's visible, the eye test, on a tree of the scene; document 01's hidden is where it answers no.
abbrev pub sees_past : {S : Type 0} → (S → Ray → Result Hit Refusal) → (ℕ → S) → Tree ℕ → Vector → Vector → Result Sight Refusal
sees_past hit solid tree = sees (λ (r : Ray). visit (λ (i : ℕ). hit (solid i) r) r tree 0 nothing)

-- no component is -0
pub record NoMinusZero (v : Vector) : Type 0 where
  pub x : T (straight v.x)
  pub y : T (straight v.y)
  pub z : T (straight v.z)

-- The premise on point and eye: numbers 8 and 9 let them pass, the computed distance isn't 0, no component of the normalised direction is -0.
pub record PremiseWithin (eye point : Vector) : Type 0 where
  pub eye_within : Within eye
  pub point_within : Within point
  pub apart : T (not (eq (distance_of eye point) zero_f))
  pub direction : NoMinusZero (eye_ray eye point).direction
