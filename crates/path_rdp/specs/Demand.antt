-- Demand 3 on simplification: what holds of a path p and of what is kept of it, q, with the threshold t.
use Rattle.std.specs.Prelude.{◌≡◌, List, [], ◌∷◌, map, ℕ, ◌-◌, ◌<◌, T, length, Float}
use Rattle.std.specs.Float.Ieee.{le}
use Rattle.geometry.specs.Vectors.{segment_distance}
use Rattle.geometry.specs.Limits.{Within}
use Rattle.geometry.specs.declared.vector.Vector.{Vector}
use Rattle.path_rdp.specs.Rdp.{vertex, threshold_ok}

-- from place a by way of the places bs to place z: each step is as `step` says
unfoldable pub Chain : (ℕ → ℕ → Type 0) → ℕ → List ℕ → ℕ → Type 0
Chain step a [] z = a ≡ z
Chain step a (b ∷ bs) z = step a b × Chain step b bs z

-- a and b are kept, and what lies between them is dropped: each such vertex has computed distance at most t from the segment that joins them
abbrev pub Near : Float → List Vector → ℕ → ℕ → Type 0
Near t p a b = (i : ℕ) → a < i → i < b → T (le (segment_distance (vertex p i) (vertex p a) (vertex p b)) t)

-- numbers 8 and 9 are not met
pub record Accepted (t : Float) (p : List Vector) : Type 0 where
  pub threshold : T (threshold_ok t)
  pub within : (i : ℕ) → i < length p → Within (vertex p i)

-- 1. the first vertex, at place 0, is kept, and the last, at which the chain of kept places ends
-- 2. what is kept comes in order, bit for bit
-- 3. a dropped vertex is near the segment that joins the nearest kept ones before and after it
pub record Simplifies (t : Float) (p q : List Vector) : Type 0 where
  pub others : List ℕ
  pub kept : q ≡ map (vertex p) (0 ∷ others)
  pub order : Chain ◌<◌ 0 others (length p - 1)
  pub near : Accepted t p → Chain (Near t p) 0 others (length p - 1)
