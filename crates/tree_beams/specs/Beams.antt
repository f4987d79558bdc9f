-- Bounds on the reciprocals of a ray's direction, shown by products, and the boxes that products with them show to be missed.
use Rattle.std.specs.Prelude.{◌≡◌, Bool, true, cond, ◌&&◌, ◌||◌, Float}
use Rattle.std.specs.Float.Ieee.{lt, le}
use Rattle.floats.specs.Arith.{◌⊗◌, ◌⊘◌, bits, zero_f, half_f, one_f}
use Rattle.geometry.specs.Limits.{Within}
use Rattle.geometry.specs.Vectors.{vec, sub_v, mul_v, mul_scalar}
use Rattle.geometry.specs.declared.vector.Vector.{Vector}
use Rattle.geometry.specs.declared.ray.Ray.{Ray}
use Rattle.geometry.specs.declared.bounding_box.BBox.{BBox}
use Rattle.tree_beams.specs.declared.Beam.{Beam}

-- ---- the bounds of a ray
-- 1 - 9 * 2^-52 and 1 - 2^-51
abbrev pub near_one : Float
near_one = bits 0x3fef_ffff_ffff_ffee

abbrev pub below_one : Float
below_one = bits 0x3fef_ffff_ffff_fffc

-- what the code tests: the product of low and d lies next to 1 and below it, and the square of low above a half
unfoldable pub is_shown : Float → Float → Bool
is_shown d low = lt near_one (low ⊗ d) && (lt (low ⊗ d) one_f && lt half_f (low ⊗ low))

unfoldable pub is_sure : Vector → Vector → Bool
is_sure d low = is_shown d.x low.x && (is_shown d.y low.y && is_shown d.z low.z)

-- the ray r, whose direction is v / length
unfoldable pub aim_of : Ray → Vector → Float → Beam
aim_of r v length =
    let low = mul_scalar (vec (length ⊘ v.x) (length ⊘ v.y) (length ⊘ v.z)) below_one in
    record { ray = r; low = low; sure = is_sure r.direction low }

-- a beam from an accepted point, with a bound on each axis
pub record Aimed (b : Beam) : Type 0 where
  pub from : Within b.ray.origin
  pub sure : is_sure b.ray.direction b.low ≡ true

-- ---- a box
-- the greater and the lesser of two numbers, the second where one is a NaN
unfoldable pub greater_f : Float → Float → Float
greater_f a b = cond (lt b a) a b

unfoldable pub lesser_f : Float → Float → Float
lesser_f a b = cond (lt a b) a b

-- a corner's planes by the products
unfoldable pub reached : Vector → Beam → Vector
reached p b = mul_v (sub_v p b.ray.origin) b.low

-- from the products of two corners: where the box is entered last, and where it is left first
unfoldable pub latest_of : Vector → Vector → Float
latest_of n f = greater_f (greater_f (lesser_f n.x f.x) (lesser_f n.y f.y)) (lesser_f n.z f.z)

unfoldable pub soonest_of : Vector → Vector → Float
soonest_of n f = lesser_f (lesser_f (greater_f n.x f.x) (greater_f n.y f.y)) (greater_f n.z f.z)

-- 1 + 45 * 2^-52, which makes a product longer than the quotient that it stands for, and 1e-290, below which it may not
abbrev pub longer : Float
longer = bits 0x3ff0_0000_0000_002d

abbrev pub next_to_zero : Float
next_to_zero = bits 0x03b8_f2b0_61ae_a072

-- the box is left at or before the origin, or before it is entered
unfoldable pub misses_box : BBox → Beam → Bool
misses_box bx b =
    let n = reached bx.min b in
    let f = reached bx.max b in
    le (soonest_of n f) zero_f || lt (greater_f (soonest_of n f ⊗ longer) next_to_zero) (latest_of n f)
