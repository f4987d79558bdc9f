-- The distance from a segment is the root of its square. Assumes nothing.
use mathlib.Core.Path.{◌≡◌, refl}
use mathlib.Core.Bool.{Bool, true, false, cond}
use lib.Ieee.{Float, lt, eq}
use Rattle.floats.specs.Arith.{◌⊘◌, zero_f, one_f}
use Rattle.sqrt.specs.Root.{sqrt_of}
use Rattle.geometry.specs.declared.vector.Vector.{Vector}
use Rattle.geometry.specs.Vectors.{sub_v, dot, length_of, distance_of, distance_squared, foot_distance, segment_distance, foot_square, segment_square}

-- a root of each of two is the root of the one that is picked
picked : (b : Bool) (x y : Float) {x' y' : Float} → x' ≡ sqrt_of x → y' ≡ sqrt_of y → cond b x' y' ≡ sqrt_of (cond b x y)
picked true x y g h = g
picked false x y g h = h

distance-root : (p v : Vector) → distance_of p v ≡ sqrt_of (distance_squared p v)
unfolding distance_of distance_squared length_of
distance-root p v = refl

foot-root : (p v w : Vector) (t : Float) → foot_distance p v w t ≡ sqrt_of (foot_square p v w t)
unfolding foot_distance foot_square
foot-root p v w t = picked (lt t zero_f) _ _ (distance-root p v) (picked (lt one_f t) _ _ (distance-root p w) (distance-root _ p))

pub segment-root : (p v w : Vector) → segment_distance p v w ≡ sqrt_of (segment_square p v w)
unfolding segment_distance segment_square
segment-root p v w = picked (eq (distance_squared v w) zero_f) _ _ (distance-root p v) (foot-root p v w (dot (sub_v p v) (sub_v w v) ⊘ distance_squared v w))
