-- A ring in its own plane (document 02 (vii)): the vectors (u, v), with z 0, that its path goes through.
use Rattle.std.specs.Prelude.{Bool, true, false, ℕ, zero, suc, Float, None, Option, Some}
use mathlib.Core.List.{List, [], ◌∷◌, ◌++◌, Memᴰ}
use Rattle.std.specs.Float.Ieee.{neg}
use Rattle.floats.specs.Arith.{zero_f}
use Rattle.geometry.specs.Vectors.{vec, add_v, mul_scalar, normalize_of}
use Rattle.geometry.specs.declared.vector.Vector.{Vector}
use Rattle.draw_rings.specs.Ring.{OnRing}

unfoldable pub times_radius : Float → Option Vector → Option Vector
times_radius r (Some v) = Some (mul_scalar v r)
times_radius r None = None

-- a piece's middle: the sum of its end vectors, normalised, times the radius; none where that sum has computed length 0
unfoldable pub ring_middle : Float → Vector → Vector → Option Vector
ring_middle r p q = times_radius r (normalize_of (add_v p q))

unfoldable pub halved_at : (Vector → Vector → List Vector) → Vector → Vector → Bool → Option Vector → List Vector
halved_at again p q true m = q ∷ []
halved_at again p q false None = q ∷ []
halved_at again p q false (Some m) = again p m ++ again m q

-- the ends of the pieces from p to q, p left out, with so many nested halvings left; `stop` is the rule that ends halving
unfoldable pub pieces : (Vector → Vector → Bool) → Float → ℕ → Vector → Vector → List Vector
pieces stop r zero p q = q ∷ []
pieces stop r (suc n) p q = halved_at (pieces stop r n) p q (stop p q) (ring_middle r p q)

-- the four quarters' ends
abbrev pub east : Float → Vector
east r = vec r zero_f zero_f

abbrev pub north : Float → Vector
north r = vec zero_f r zero_f

abbrev pub west : Float → Vector
west r = vec (neg r) zero_f zero_f

abbrev pub south : Float → Vector
south r = vec zero_f (neg r) zero_f

-- four quarters from (radius, 0) towards (0, radius), closed by the first point again
unfoldable pub ring_pairs : (Vector → Vector → Bool) → Float → ℕ → List Vector
ring_pairs stop r n = east r ∷ (pieces stop r n (east r) (north r) ++ (pieces stop r n (north r) (west r) ++ (pieces stop r n (west r) (south r) ++ pieces stop r n (south r) (east r))))

-- each of these vectors lies on the ring
abbrev pub AllOn : Float → List Vector → Type 0
AllOn r l = (v : Vector) → Memᴰ v l → OnRing r v.x v.y
