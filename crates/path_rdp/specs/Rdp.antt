-- Simplification by Ramer, Douglas and Peucker: of the vertices between a path's ends the first that is farthest from the segment joining them splits the
-- path, if it is farther than the threshold; the two parts, which share it, are simplified alike and joined. Else only the ends are kept.
-- Vertices are told apart by place.
use Rattle.std.specs.Prelude.{Bool, true, false, cond, ◌&&◌, List, [], ◌∷◌, ◌++◌, ℕ, zero, suc, ◌+◌, ◌-◌, length, take, drop, get_or, ltb, Float}
use Rattle.std.proofs.Math.Seq.{slice}
use Rattle.std.specs.Float.Ieee.{lt, le}
use Rattle.std.specs.Float.Ieee.Scale.{finite}
use Rattle.floats.specs.Arith.{zero_f}
use Rattle.geometry.specs.Vectors.{segment_distance, segment_square}
use Rattle.geometry.specs.declared.vector.Vector.{Vector}
use Rattle.paths.specs.Paths.{front}
use Rattle.paths.specs.Ends.{nowhere}
use Rattle.path_rdp.specs.declared.Far.{Far}
use Rattle.path_rdp.specs.declared.Peak.{Peak}

-- number 8: a threshold is finite and not negative
unfoldable pub threshold_ok : Float → Bool
threshold_ok t = finite t && le zero_f t

abbrev pub vertex : List Vector → ℕ → Vector
vertex p i = get_or p i nowhere

abbrev pub first_vertex : List Vector → Vector
first_vertex p = vertex p 0

abbrev pub last_vertex : List Vector → Vector
last_vertex p = vertex p (length p - 1)

-- the vertex at place i takes over if its distance d is greater
unfoldable pub farther : Far → ℕ → Float → Far
farther f i d = cond (lt f.distance d) (record { index = i; distance = d }) f

-- the first farthest from the segment a b among f and the vertices vs, the first of which stands at place i
unfoldable pub farthest_from : Vector → Vector → ℕ → List Vector → Far → Far
farthest_from a b i [] f = f
farthest_from a b i (v ∷ vs) f = farthest_from a b (i + 1) vs (farther f i (segment_distance v a b))

abbrev pub nothing_yet : Far
nothing_yet = record { index = 0; distance = zero_f }

-- of the vertices between a path's ends
unfoldable pub farthest_of : List Vector → Far
farthest_of p = farthest_from (first_vertex p) (last_vertex p) 1 (slice 1 (length p - 1) p) nothing_yet

-- the vertex at place i, the square of whose distance is q, takes over as the peak if that is greater
unfoldable pub higher : Peak → ℕ → Float → Peak
higher k i q = cond (lt k.square q) (record { index = i; square = q; lower = k.square }) k

-- the peak, by squares of distances from the segment a b, among k and the vertices vs, the first of which stands at place i
unfoldable pub peak_from : Vector → Vector → ℕ → List Vector → Peak → Peak
peak_from a b i [] k = k
peak_from a b i (v ∷ vs) k = peak_from a b (i + 1) vs (higher k i (segment_square v a b))

abbrev pub no_peak : Peak
no_peak = record { index = 0; square = zero_f; lower = zero_f }

-- of the vertices between a path's ends
unfoldable pub peak_of : List Vector → Peak
peak_of p = peak_from (first_vertex p) (last_vertex p) 1 (slice 1 (length p - 1) p) no_peak

-- split at place k, or not: the split vertex is the last of the first part and the first of the second, and is kept once
unfoldable pub halved : (List Vector → List Vector) → List Vector → ℕ → Bool → List Vector
halved again p k true = front (again (take (k + 1) p)) ++ again (drop k p)
halved again p k false = first_vertex p ∷ last_vertex p ∷ []

-- a path of fewer than three vertices stays
unfoldable pub thinned : (List Vector → List Vector) → Float → List Vector → Bool → List Vector
thinned again t p true = p
thinned again t p false = halved again p (farthest_of p).index (lt t (farthest_of p).distance)

unfoldable pub rdp : ℕ → Float → List Vector → List Vector
rdp zero t p = p
rdp (suc n) t p = thinned (rdp n t) t p (ltb (length p) 3)

-- each split makes both parts shorter, so that as many rounds as vertices are enough
unfoldable pub simplified : Float → List Vector → List Vector
simplified t p = rdp (length p) t p
