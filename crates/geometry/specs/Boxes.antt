-- Boxes (bounding_box.rs), and the box test by slabs: a box is where three slabs overlap, each between two parallel planes, and a ray is in the box
-- from where it enters the last slab to where it leaves the first.
use Rattle.std.specs.Prelude.{Bool, false, not, cond, ◌&&◌, ◌||◌, Float, None, Option, Some}
use Rattle.std.specs.Float.Ieee.{lt, le}
use Rattle.floats.specs.Arith.{◌⊖◌, ◌⊘◌, zero_f, half_f, one_f, bits}
use Rattle.floats.specs.Numbers.{min_of, max_of}
use Rattle.geometry.specs.Vectors.{vec, add_v, sub_v, mul_v, min_v, max_v}
use Rattle.geometry.specs.declared.axis.Axis.{Axis}
use Rattle.geometry.specs.declared.axis.Axis.TheVariants.{X, Y, Z}
use Rattle.geometry.specs.declared.vector.Vector.{Vector}
use Rattle.geometry.specs.declared.ray.Ray.{Ray}
use Rattle.geometry.specs.declared.bounding_box.BBox.{BBox}
use Rattle.geometry.specs.declared.bounding_box.Span.{Span}
use Rattle.geometry.specs.declared.bounding_box.Sides.{Sides}

abbrev pub box_of : Vector → Vector → BBox
box_of a b = record { min = a; max = b }

abbrev pub minus_one : Float
minus_one = bits 0xbff0_0000_0000_0000

-- the Rust's CLIP_BOX (filter.rs): from -1 to 1 on each axis
abbrev pub clip_box : BBox
clip_box = box_of (vec minus_one minus_one minus_one) (vec one_f one_f one_f)

unfoldable pub size_of : BBox → Vector
size_of b = sub_v b.max b.min

-- the point that lies in the box as `a` lies in the unit cube
unfoldable pub anchor_of : BBox → Vector → Vector
anchor_of b a = add_v b.min (mul_v (size_of b) a)

unfoldable pub center_of : BBox → Vector
center_of b = anchor_of b (vec half_f half_f half_f)

unfoldable pub in_range : Float → Float → Float → Bool
in_range low x high = le low x && le x high

unfoldable pub contains : BBox → Vector → Bool
contains b v = in_range b.min.x v.x b.max.x && (in_range b.min.y v.y b.max.y && in_range b.min.z v.z b.max.z)

-- the smallest box that holds both
unfoldable pub extend_box : BBox → BBox → BBox
extend_box a b = box_of (min_v a.min b.min) (max_v a.max b.max)

-- ---- the box test
abbrev pub span_of : Float → Float → Span
span_of a b = record { tmin = a; tmax = b }

-- the two ends of a slab, swapped where the first exceeds the second, which is never at a NaN
unfoldable pub ordered : Float → Float → Span
ordered a b = cond (lt b a) (span_of b a) (span_of a b)

-- where the ray from o along d is between the planes at lo and hi
unfoldable pub slab : Float → Float → Float → Float → Span
slab lo hi o d = ordered ((lo ⊖ o) ⊘ d) ((hi ⊖ o) ⊘ d)

-- entered where the last is entered, left where the first is left
unfoldable pub overlap : Span → Span → Span → Span
overlap a b c = span_of (max_of (max_of a.tmin b.tmin) c.tmin) (min_of (min_of a.tmax b.tmax) c.tmax)

-- document 01's box test: where the ray enters and leaves the box
unfoldable pub box_test : BBox → Ray → Span
box_test b r =
    overlap (slab b.min.x b.max.x r.origin.x r.direction.x)
    (slab b.min.y b.max.y r.origin.y r.direction.y)
    (slab b.min.z b.max.z r.origin.z r.direction.z)

-- document 01: a box passes the test if neither tmax < tmin nor tmax <= 0, and is skipped if it does not or tmin >= the best t
abbrev pub passes : Span → Bool
passes s = not (lt s.tmax s.tmin) && not (le s.tmax zero_f)

abbrev pub skips : Span → Float → Bool
skips s best = lt s.tmax s.tmin || le s.tmax zero_f || le best s.tmin

-- ---- which sides of the plane at p the box reaches
abbrev pub sides_of : Bool → Bool → Sides
sides_of a b = record { left = a; right = b }

unfoldable pub partition_of : BBox → Option Axis → Float → Sides
partition_of b (Some X) p = sides_of (le b.min.x p) (le p b.max.x)
partition_of b (Some Y) p = sides_of (le b.min.y p) (le p b.max.y)
partition_of b (Some Z) p = sides_of (le b.min.z p) (le p b.max.z)
partition_of b None p = sides_of false false
