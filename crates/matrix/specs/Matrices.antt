-- Matrices of 4 rows and 4 columns (matrix.rs): the Rust's formulas, in its order of operations.
use Rattle.std.specs.Prelude.{Float, Option}
use Rattle.std.specs.Float.Ieee.{neg}
use Rattle.floats.specs.Arith.{◌⊕◌, ◌⊖◌, ◌⊗◌, ◌⊘◌, zero_f, one_f, two_f}
use Rattle.geometry.specs.Vectors.{vec, add_v, min_v, max_v, mul_scalar, div_scalar, length_of, normalize_of}
use Rattle.geometry.specs.Rays.{ray_of}
use Rattle.geometry.specs.Boxes.{box_of}
use Rattle.geometry.specs.declared.vector.Vector.{Vector}
use Rattle.geometry.specs.declared.ray.Ray.{Ray}
use Rattle.geometry.specs.declared.bounding_box.BBox.{BBox}
use Rattle.matrix.specs.declared.Matrix.{Matrix}
use Rattle.matrix.specs.declared.Row.{Row}
use Rattle.matrix.specs.declared.Scaled.{Scaled}

-- by rows
abbrev pub mat : Float → Float → Float → Float → Float → Float → Float → Float → Float → Float → Float → Float → Float → Float → Float → Float → Matrix
mat a b c d e f g h i j k l m n o p = record {
  x00 = a;
  x01 = b;
  x02 = c;
  x03 = d;
  x10 = e;
  x11 = f;
  x12 = g;
  x13 = h;
  x20 = i;
  x21 = j;
  x22 = k;
  x23 = l;
  x30 = m;
  x31 = n;
  x32 = o;
  x33 = p;
}

abbrev pub row_of : Float → Float → Float → Float → Row
row_of a b c d = record { a = a; b = b; c = c; d = d }

-- the rows of a matrix
abbrev pub row0 : Matrix → Row
row0 m = row_of m.x00 m.x01 m.x02 m.x03

abbrev pub row1 : Matrix → Row
row1 m = row_of m.x10 m.x11 m.x12 m.x13

abbrev pub row2 : Matrix → Row
row2 m = row_of m.x20 m.x21 m.x22 m.x23

abbrev pub row3 : Matrix → Row
row3 m = row_of m.x30 m.x31 m.x32 m.x33

abbrev pub of_rows : Row → Row → Row → Row → Matrix
of_rows p q r s = mat p.a p.b p.c p.d q.a q.b q.c q.d r.a r.b r.c r.d s.a s.b s.c s.d

unfoldable pub identity_m : Matrix
identity_m =
    mat one_f zero_f zero_f zero_f
    zero_f one_f zero_f zero_f
    zero_f zero_f one_f zero_f
    zero_f zero_f zero_f one_f

unfoldable pub translate_m : Vector → Matrix
translate_m v =
    mat one_f zero_f zero_f v.x
    zero_f one_f zero_f v.y
    zero_f zero_f one_f v.z
    zero_f zero_f zero_f one_f

unfoldable pub scale_m : Vector → Matrix
scale_m v =
    mat v.x zero_f zero_f zero_f
    zero_f v.y zero_f zero_f
    zero_f zero_f v.z zero_f
    zero_f zero_f zero_f one_f

unfoldable pub frustum_m : Float → Float → Float → Float → Float → Float → Matrix
frustum_m l r b t n f =
    let t1 = two_f ⊗ n in
    let t2 = r ⊖ l in
    let t3 = t ⊖ b in
    let t4 = f ⊖ n in
    mat (t1 ⊘ t2) zero_f ((r ⊕ l) ⊘ t2) zero_f
    zero_f (t1 ⊘ t3) ((t ⊕ b) ⊘ t3) zero_f
    zero_f zero_f ((neg f ⊖ n) ⊘ t4) (neg t1 ⊗ f ⊘ t4)
    zero_f zero_f (neg one_f) zero_f

unfoldable pub orthographic_m : Float → Float → Float → Float → Float → Float → Matrix
orthographic_m l r b t n f =
    mat (two_f ⊘ (r ⊖ l)) zero_f zero_f (neg (r ⊕ l) ⊘ (r ⊖ l))
    zero_f (two_f ⊘ (t ⊖ b)) zero_f (neg (t ⊕ b) ⊘ (t ⊖ b))
    zero_f zero_f (neg two_f ⊘ (f ⊖ n)) (neg (f ⊕ n) ⊘ (f ⊖ n))
    zero_f zero_f zero_f one_f

-- a row times a matrix
unfoldable pub row_mul : Row → Matrix → Row
row_mul r b =
    row_of (r.a ⊗ b.x00 ⊕ r.b ⊗ b.x10 ⊕ r.c ⊗ b.x20 ⊕ r.d ⊗ b.x30) (r.a ⊗ b.x01 ⊕ r.b ⊗ b.x11 ⊕ r.c ⊗ b.x21 ⊕ r.d ⊗ b.x31)
    (r.a ⊗ b.x02 ⊕ r.b ⊗ b.x12 ⊕ r.c ⊗ b.x22 ⊕ r.d ⊗ b.x32) (r.a ⊗ b.x03 ⊕ r.b ⊗ b.x13 ⊕ r.c ⊗ b.x23 ⊕ r.d ⊗ b.x33)

unfoldable pub mul_m : Matrix → Matrix → Matrix
mul_m a b = of_rows (row_mul (row0 a) b) (row_mul (row1 a) b) (row_mul (row2 a) b) (row_mul (row3 a) b)

unfoldable pub transpose_m : Matrix → Matrix
transpose_m a =
    mat a.x00 a.x10 a.x20 a.x30
    a.x01 a.x11 a.x21 a.x31
    a.x02 a.x12 a.x22 a.x32
    a.x03 a.x13 a.x23 a.x33

unfoldable pub mul_position : Matrix → Vector → Vector
mul_position a b =
    vec (a.x00 ⊗ b.x ⊕ a.x01 ⊗ b.y ⊕ a.x02 ⊗ b.z ⊕ a.x03) (a.x10 ⊗ b.x ⊕ a.x11 ⊗ b.y ⊕ a.x12 ⊗ b.z ⊕ a.x13)
    (a.x20 ⊗ b.x ⊕ a.x21 ⊗ b.y ⊕ a.x22 ⊗ b.z ⊕ a.x23)

-- document 01's projection: over the fourth coordinate
unfoldable pub mul_position_w : Matrix → Vector → Vector
mul_position_w a b = div_scalar (mul_position a b) (a.x30 ⊗ b.x ⊕ a.x31 ⊗ b.y ⊕ a.x32 ⊗ b.z ⊕ a.x33)

unfoldable pub mul_vector : Matrix → Vector → Vector
mul_vector a b =
    vec (a.x00 ⊗ b.x ⊕ a.x01 ⊗ b.y ⊕ a.x02 ⊗ b.z) (a.x10 ⊗ b.x ⊕ a.x11 ⊗ b.y ⊕ a.x12 ⊗ b.z)
    (a.x20 ⊗ b.x ⊕ a.x21 ⊗ b.y ⊕ a.x22 ⊗ b.z)

unfoldable pub mul_direction : Matrix → Vector → Option Vector
mul_direction a b = normalize_of (mul_vector a b)

-- the ray with its direction over its length, and that length
unfoldable pub mul_ray : Matrix → Ray → Scaled
mul_ray a r =
    let d = mul_vector a r.direction in
    record { ray = ray_of (mul_position a r.origin) (div_scalar d (length_of d)); scale = length_of d }

-- the columns, without the fourth row
abbrev pub column0 : Matrix → Vector
column0 a = vec a.x00 a.x10 a.x20

abbrev pub column1 : Matrix → Vector
column1 a = vec a.x01 a.x11 a.x21

abbrev pub column2 : Matrix → Vector
column2 a = vec a.x02 a.x12 a.x22

abbrev pub column3 : Matrix → Vector
column3 a = vec a.x03 a.x13 a.x23

-- a column times the two ends of an edge, the lesser and the greater components
unfoldable pub mul_edge : Vector → Float → Float → BBox
mul_edge v lo hi = box_of (min_v (mul_scalar v lo) (mul_scalar v hi)) (max_v (mul_scalar v lo) (mul_scalar v hi))

unfoldable pub mul_box : Matrix → BBox → BBox
mul_box a b =
    let x = mul_edge (column0 a) b.min.x b.max.x in
    let y = mul_edge (column1 a) b.min.y b.max.y in
    let z = mul_edge (column2 a) b.min.z b.max.z in
    box_of (add_v (add_v (add_v x.min y.min) z.min) (column3 a)) (add_v (add_v (add_v x.max y.max) z.max) (column3 a))
