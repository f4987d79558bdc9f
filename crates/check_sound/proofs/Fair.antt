-- The box of an entry whose numbers passed number 5, and whose parts have sound boxes: its min is under its max. Assumes nothing.
use Prim.Native.Nat.{ℕ}
use mathlib.Core.Path.{◌≡◌, refl}
use mathlib.Core.Bool.{Bool, true, false, not, ◌&&◌, cond, and-eq-true_iff}
use lib.Dec.{T, leb, eqb}
use lib.Ieee.{Float, lt, le, of_bits}
use borrow.Author.Tests.{eqb-true}
use denote.Floats.{passes}
use mir.Facts.{or_no}
use Rattle.floats.specs.Arith.{◌⊕◌, ◌⊗◌, zero_f}
use Rattle.floats.specs.Numbers.{min_of, max_of, within}
use Rattle.floats.proofs.Order.{lt→le}
use Rattle.geometry.specs.Vectors.{add_v, min_v, max_v, add_scalar, sub_scalar, mul_scalar}
use Rattle.geometry.specs.Limits.{Within, Under, Sound}
use Rattle.geometry.specs.declared.vector.Vector.{Vector}
use Rattle.geometry.specs.declared.bounding_box.BBox.{BBox}
use Rattle.geometry.proofs.Nested.{extend-holds}
use Rattle.matrix.specs.Matrices.{mul_edge, mul_box}
use Rattle.matrix.specs.declared.Matrix.{Matrix}
use Rattle.rows.specs.declared.Marks.{Marks}
use Rattle.rows.specs.declared.Numbers.{Numbers}
use Rattle.solids.specs.Spheres.{sphere_box}
use Rattle.solids.specs.Cylinders.{cylinder_box}
use Rattle.solids.specs.Cones.{cone_box}
use Rattle.solids.specs.Triangles.{triangle_box}
use Rattle.solids.specs.Solids.{solid_box}
use Rattle.solids.specs.declared.solid.Solid.{Solid}
use Rattle.solids.specs.declared.solid.Solid.TheVariants.{Sphere, Cylinder, Cone, Cube, Triangle, ClosedCylinder, ClosedCone}
use Rattle.scene.specs.Entries.{closed_of, simple_of, matrix_of, op_of, cut_of, composite_of, simple_or, entry_of}
use Rattle.scene.specs.declared.entry.Entry.{Entry}
use Rattle.scene.specs.declared.entry.Entry.TheVariants.{Simple as SimpleEntry, Placed, Cut}
use Rattle.limits.specs.Limits.{within_point, within_four, within_matrix}
use Rattle.limits.proofs.Limits.{within-point}
use Rattle.check_measures.specs.Measures.{is_radius, exceeds, cylinder_measured, cone_measured, cube_measured, triangle_measured, solid_measured, simple_measured, measured}
use Rattle.check_scene.specs.Extents.{zero_box, entry_box}
use Rattle.check_scene.proofs.Reading.{Each}
use Rattle.check_sound.proofs.Edges.{zero-within, within-le, neg-under, about, min-max-three, edge-mul, edge-sum}
use Rattle.std.specs.Prelude.{None, Option, Some}

-- min is under max
abbrev pub Fair : BBox → Type 0
Fair b = Under b.min b.max

both : (a : Bool) {b : Bool} → (a && b) ≡ true → (a ≡ true) × (b ≡ true)
both a {b} e = (and-eq-true_iff a b).0 e

-- ---- kinds 1 to 5, 8 and 9
pub record Radius (r : Float) : Type 0 where
  pub bounded : T (within r)
  pub nonneg : T (le zero_f r)

pub radius-of : (r : Float) → is_radius r ≡ true → Radius r
unfolding is_radius
radius-of r h = let p = both (within r) h in record { bounded = passes _ p.0; nonneg = within-le zero_f r zero-within (passes _ p.0) (passes _ p.1) }

not-exceeds : (a b : Vector) → Within a → Within b → T (not (exceeds a b)) → Under a b
unfolding exceeds
not-exceeds a b A B h =
    let p = or_no (lt b.x a.x) _ h in
    let q = or_no (lt b.y a.y) (lt b.z a.z) p.1 in
    record { x = within-le a.x b.x A.x B.x p.0; y = within-le a.y b.y A.y B.y q.0; z = within-le a.z b.z A.z B.z q.1 }

cylinder-fair : (r z0 z1 : Float) → cylinder_measured r z0 z1 ≡ true → Fair (cylinder_box r z0 z1)
unfolding cylinder_box cylinder_measured
cylinder-fair r z0 z1 h =
    let p = both (is_radius r) h in
    let q = both (within z0) p.1 in
    let w = both (within z1) q.1 in
    let n = neg-under r (radius-of r p.0).nonneg in
    record { x = n; y = n; z = within-le z0 z1 (passes _ q.0) (passes _ w.0) (passes _ w.1) }

cone-fair : (r k : Float) → cone_measured r k ≡ true → Fair (cone_box r k)
unfolding cone_box cone_measured
cone-fair r k h =
    let p = both (is_radius r) h in
    let q = both (within k) p.1 in
    let n = neg-under r (radius-of r p.0).nonneg in
    record { x = n; y = n; z = lt→le zero_f k (passes _ q.1) }

pub solid-fair : (s : Solid) → solid_measured s ≡ true → Fair (solid_box s)
unfolding solid_measured solid_box sphere_box triangle_box cube_measured triangle_measured sub_scalar add_scalar min_v max_v
solid-fair (Sphere c r) h =
    let p = both (within_point c) h in
    let C = within-point c p.0 in
    let R = radius-of r p.1 in
    record { x = about c.x r C.x R.bounded R.nonneg; y = about c.y r C.y R.bounded R.nonneg; z = about c.z r C.z R.bounded R.nonneg }
solid-fair (Cylinder r z0 z1) h = cylinder-fair r z0 z1 h
solid-fair (Cone r k) h = cone-fair r k h
solid-fair (Cube a b) h =
    let p = both (within_point a) h in
    let q = both (within_point b) p.1 in
    not-exceeds a b (within-point a p.0) (within-point b q.0) (passes _ q.1)
solid-fair (Triangle a b c) h =
    let p = both (within_point a) h in
    let q = both (within_point b) p.1 in
    let A = within-point a p.0 in
    let B = within-point b q.0 in
    let C = within-point c q.1 in
    record {
      x = min-max-three a.x b.x c.x A.x B.x C.x;
      y = min-max-three a.y b.y c.y A.y B.y C.y;
      z = min-max-three a.z b.z c.z A.z B.z C.z;
    }
solid-fair (ClosedCylinder r z0 z1) h = cylinder-fair r z0 z1 h
solid-fair (ClosedCone r k) h = cone-fair r k h

-- ---- kind 6
-- a row of a matrix
record Four (a b c d : Float) : Type 0 where
  pub zero : T (within a)
  pub one : T (within b)
  pub two : T (within c)
  pub three : T (within d)

four-of : (a b c d : Float) → within_four a b c d ≡ true → Four a b c d
unfolding within_four
four-of a b c d h =
    let p = both (within a) h in
    let q = both (within b) p.1 in
    let w = both (within c) q.1 in
    record { zero = passes _ p.0; one = passes _ q.0; two = passes _ w.0; three = passes _ w.1 }

-- the rows that place a box; the fourth does not
record Rows (m : Matrix) : Type 0 where
  pub x : Four m.x00 m.x01 m.x02 m.x03
  pub y : Four m.x10 m.x11 m.x12 m.x13
  pub z : Four m.x20 m.x21 m.x22 m.x23

rows_of : (m : Matrix) → within_matrix m ≡ true → Rows m
unfolding within_matrix
rows_of m h =
    let p = both (within_four m.x00 m.x01 m.x02 m.x03) h in
    let q = both (within_four m.x10 m.x11 m.x12 m.x13) p.1 in
    let w = both (within_four m.x20 m.x21 m.x22 m.x23) q.1 in
    record { x = four-of _ _ _ _ p.0; y = four-of _ _ _ _ q.0; z = four-of _ _ _ _ w.0 }

-- one axis of a placed box
axis : (b : BBox) → Sound b → (p q r t : Float) → Four p q r t
    → T (le (min_of (p ⊗ b.min.x) (p ⊗ b.max.x) ⊕ min_of (q ⊗ b.min.y) (q ⊗ b.max.y) ⊕ min_of (r ⊗ b.min.z) (r ⊗ b.max.z) ⊕ t)
    (max_of (p ⊗ b.min.x) (p ⊗ b.max.x) ⊕ max_of (q ⊗ b.min.y) (q ⊗ b.max.y) ⊕ max_of (r ⊗ b.min.z) (r ⊗ b.max.z) ⊕ t))
axis b s p q r t f =
    edge-sum _ _ _ _ _ _ t (edge-mul p b.min.x b.max.x f.zero s.min.x s.max.x) (edge-mul q b.min.y b.max.y f.one s.min.y s.max.y)
    (edge-mul r b.min.z b.max.z f.two s.min.z s.max.z) f.three

pub placed-fair : (m : Matrix) (b : BBox) → within_matrix m ≡ true → Sound b → Fair (mul_box m b)
unfolding mul_box mul_edge add_v min_v max_v mul_scalar
placed-fair m b h s =
    let w = rows_of m h in
    record { x = axis b s m.x00 m.x01 m.x02 m.x03 w.x; y = axis b s m.x10 m.x11 m.x12 m.x13 w.y; z = axis b s m.x20 m.x21 m.x22 m.x23 w.z }

-- ---- any kind
-- what number 5 gives of an entry
abbrev pub Measured : Option Entry → Type 0
Measured (Some (SimpleEntry s)) = solid_measured s ≡ true
Measured (Some (Placed m v k)) = within_matrix m ≡ true
Measured (Some (Cut o a b)) = Unit
Measured None = Unit

-- the box that is read where there is no entry
zero-fair : Fair zero_box
unfolding of_bits le
zero-fair = record { x = tt; y = tt; z = tt }

pub entry-fair : (f : ℕ → BBox) (e : Option Entry) → Measured e → Each (λ k. Sound (f k)) e → Fair (entry_box f e)
unfolding entry_box
entry-fair f (Some (SimpleEntry s)) h p = solid-fair s h
entry-fair f (Some (Placed m v k)) h p = placed-fair m (f k) h p
entry-fair f (Some (Cut o a b)) h p = (extend-holds (f a) (f b) p.0 p.1).sound.fair
entry-fair f None h p = zero-fair

module _ (m : Marks) (n v : Numbers) where
  cut-measured : (t : Bool) → Measured (cond t (Some (Cut (op_of m.detail) m.first m.second)) None)
  cut-measured true = tt
  cut-measured false = tt

  other-measured : (t7 : Bool) → Measured (cond t7 (cut_of m) None)
  unfolding cut_of
  other-measured true = cut-measured (leb m.detail 3)
  other-measured false = tt

  or-measured : (s : Option Solid) → simple_measured s ≡ true → Measured (simple_or s (cond (eqb m.kind 7) (cut_of m) None))
  unfolding simple_or simple_measured
  or-measured (Some s) h = h
  or-measured None h = other-measured (eqb m.kind 7)

  placing : m.kind ≡ 6 → simple_of m.kind n ≡ None
  unfolding simple_of closed_of
  placing e = rw e

  by_kind : (t : Bool) → eqb m.kind 6 ≡ t → cond t (within_matrix (matrix_of n)) (simple_measured (simple_of m.kind n)) ≡ true
      → Measured (simple_or (simple_of m.kind n) (cond t (Some (Placed (matrix_of n) (matrix_of v) m.first)) (cond (eqb m.kind 7) (cut_of m) None)))
  unfolding simple_or
  by_kind true e h = rw (placing (eqb-true m.kind 6 e)) h
  by_kind false e h = or-measured (simple_of m.kind n) h

  entry-measured : measured m n ≡ true → Measured (entry_of m n v)
  unfolding measured entry_of composite_of
  entry-measured h = by_kind (eqb m.kind 6) refl h

  pub if-measured : (t : Bool) → measured m n ≡ true → Measured (cond t (entry_of m n v) None)
  if-measured true h = entry-measured h
  if-measured false h = tt
