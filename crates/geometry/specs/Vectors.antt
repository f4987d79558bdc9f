-- Vectors (vector.rs): the Rust's formulas, in its order of operations.
use Rattle.std.specs.Prelude.{Bool, cond, ◌&&◌, ℤ, Float, None, Option, Some}
use Rattle.std.specs.Float.Ieee.{eq, lt, le}
use Rattle.floats.specs.Arith.{◌⊕◌, ◌⊖◌, ◌⊗◌, ◌⊘◌, zero_f, one_f, EPS}
use Rattle.floats.specs.Numbers.{min_of, max_of, abs_of}
use Rattle.sqrt.specs.Root.{sqrt_of, rest_of}
use Rattle.geometry.specs.declared.vector.Vector.{Vector}

abbrev pub vec : Float → Float → Float → Vector
vec a b c = record { x = a; y = b; z = c }

unfoldable pub add_v : Vector → Vector → Vector
add_v a b = vec (a.x ⊕ b.x) (a.y ⊕ b.y) (a.z ⊕ b.z)

unfoldable pub sub_v : Vector → Vector → Vector
sub_v a b = vec (a.x ⊖ b.x) (a.y ⊖ b.y) (a.z ⊖ b.z)

unfoldable pub mul_v : Vector → Vector → Vector
mul_v a b = vec (a.x ⊗ b.x) (a.y ⊗ b.y) (a.z ⊗ b.z)

unfoldable pub div_v : Vector → Vector → Vector
div_v a b = vec (a.x ⊘ b.x) (a.y ⊘ b.y) (a.z ⊘ b.z)

unfoldable pub add_scalar : Vector → Float → Vector
add_scalar a s = vec (a.x ⊕ s) (a.y ⊕ s) (a.z ⊕ s)

unfoldable pub sub_scalar : Vector → Float → Vector
sub_scalar a s = vec (a.x ⊖ s) (a.y ⊖ s) (a.z ⊖ s)

unfoldable pub mul_scalar : Vector → Float → Vector
mul_scalar a s = vec (a.x ⊗ s) (a.y ⊗ s) (a.z ⊗ s)

unfoldable pub div_scalar : Vector → Float → Vector
div_scalar a s = vec (a.x ⊘ s) (a.y ⊘ s) (a.z ⊘ s)

unfoldable pub dot : Vector → Vector → Float
dot a b = a.x ⊗ b.x ⊕ a.y ⊗ b.y ⊕ a.z ⊗ b.z

unfoldable pub cross : Vector → Vector → Vector
cross a b = vec (a.y ⊗ b.z ⊖ a.z ⊗ b.y) (a.z ⊗ b.x ⊖ a.x ⊗ b.z) (a.x ⊗ b.y ⊖ a.y ⊗ b.x)

unfoldable pub length_squared : Vector → Float
length_squared a = dot a a

unfoldable pub length_of : Vector → Float
length_of a = sqrt_of (length_squared a)

-- document 01's computed distance
unfoldable pub distance_of : Vector → Vector → Float
distance_of a b = length_of (sub_v a b)

unfoldable pub distance_squared : Vector → Vector → Float
distance_squared a b = length_squared (sub_v a b)

-- request (xi): the remainder of the length's root and of the distance's, which are roots of the computed sums of squares
unfoldable pub length_rest : Vector → ℤ
length_rest a = rest_of (length_squared a)

unfoldable pub distance_rest : Vector → Vector → ℤ
distance_rest a b = length_rest (sub_v a b)

-- over the length; where that is 0 the Rust panics, and the answer is `Zero`
unfoldable pub normalize_of : Vector → Option Vector
normalize_of a = cond (eq (length_of a) zero_f) None (Some (div_scalar a (length_of a)))

unfoldable pub min_v : Vector → Vector → Vector
min_v a b = vec (min_of a.x b.x) (min_of a.y b.y) (min_of a.z b.z)

unfoldable pub max_v : Vector → Vector → Vector
max_v a b = vec (max_of a.x b.x) (max_of a.y b.y) (max_of a.z b.z)

-- each component's magnitude
unfoldable pub abs_v : Vector → Vector
abs_v a = vec (abs_of a.x) (abs_of a.y) (abs_of a.z)

unfoldable pub at_most_both : Float → Float → Float → Bool
at_most_both a b c = le a b && le a c

-- the axis on which the magnitude is least, the first of equals
unfoldable pub min_axis : Vector → Vector
min_axis a =
    let m = abs_v a in
    cond (at_most_both m.x m.y m.z) (vec one_f zero_f zero_f)
    (cond (at_most_both m.y m.x m.z) (vec zero_f one_f zero_f)
    (vec zero_f zero_f one_f))

unfoldable pub min_component : Vector → Float
min_component a = min_of (min_of a.x a.y) a.z

unfoldable pub max_component : Vector → Float
max_component a = max_of (max_of a.x a.y) a.z

unfoldable pub all_close : Vector → Vector → Bool
all_close a b = lt (max_component (abs_v (sub_v a b))) EPS

-- the distance of p from the segment where the foot of its perpendicular lies at t, from 0 at v to 1 at w
unfoldable pub foot_distance : Vector → Vector → Vector → Float → Float
foot_distance p v w t =
    cond (lt t zero_f) (distance_of p v)
    (cond (lt one_f t) (distance_of p w)
    (distance_of (add_v v (mul_scalar (sub_v w v) t)) p))

-- the distance of p from the segment from v to w
unfoldable pub segment_distance : Vector → Vector → Vector → Float
segment_distance p v w =
    cond (eq (distance_squared v w) zero_f) (distance_of p v)
    (foot_distance p v w (dot (sub_v p v) (sub_v w v) ⊘ distance_squared v w))

-- the squares of the two, whose roots they are (`segment-root` of proofs/Segments.antt)
unfoldable pub foot_square : Vector → Vector → Vector → Float → Float
foot_square p v w t =
    cond (lt t zero_f) (distance_squared p v)
    (cond (lt one_f t) (distance_squared p w)
    (distance_squared (add_v v (mul_scalar (sub_v w v) t)) p))

unfoldable pub segment_square : Vector → Vector → Vector → Float
segment_square p v w =
    cond (eq (distance_squared v w) zero_f) (distance_squared p v)
    (foot_square p v w (dot (sub_v p v) (sub_v w v) ⊘ distance_squared v w))
