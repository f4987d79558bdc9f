-- What an entry's kind and its 16 numbers stand for (document 01, "Scene"; document 02, iii).
use Rattle.std.specs.Prelude.{ℕ, ◌/◌, Bool, cond, ◌&&◌, ◌||◌, List, length, ltb, leb, eqb, Float, None, Option, Some}
use Rattle.geometry.specs.Vectors.{vec}
use Rattle.matrix.specs.Matrices.{mat}
use Rattle.matrix_inverse.specs.Inverses.{inverted}
use Rattle.matrix.specs.declared.Matrix.{Matrix}
use Rattle.rows.specs.Rows.{row}
use Rattle.rows.specs.Entries.{numbers_of, marks_of}
use Rattle.rows.specs.declared.Numbers.{Numbers}
use Rattle.rows.specs.declared.Marks.{Marks}
use Rattle.solids.specs.declared.solid.Solid.TheVariants.{Sphere, Cylinder, Cone, Cube, Triangle, ClosedCylinder, ClosedCone}
use Rattle.scene.specs.declared.entry.Op.{Op}
use Rattle.scene.specs.declared.entry.Op.TheVariants.{Intersection, Difference, TrueIntersection, TrueDifference}
use Rattle.scene.specs.declared.entry.Parts.{Parts}
use Rattle.scene.specs.declared.entry.Parts.TheVariants.{Placed as PlacedPart, Cut as CutParts}
use Rattle.scene.specs.declared.entry.Entry.{Entry}
use Rattle.scene.specs.declared.entry.Entry.TheVariants.{Simple as SimpleEntry, Placed, Cut}
use Rattle.solids.specs.declared.solid.Solid.{Solid}

-- document 02's kinds 8 and 9, closed cylinder and closed cone, with the measures of 2 and 3
unfoldable pub closed_of : ℕ → Numbers → Option Solid
closed_of kind n =
    cond (eqb kind 8) (Some (ClosedCylinder n.x00 n.x01 n.x02))
    (cond (eqb kind 9) (Some (ClosedCone n.x00 n.x01))
    None)

-- kinds 1 to 5, sphere, cylinder, cone, cube and triangle, with their measures; 8 and 9
unfoldable pub simple_of : ℕ → Numbers → Option Solid
simple_of kind n =
    cond (eqb kind 1) (Some (Sphere (vec n.x00 n.x01 n.x02) n.x03))
    (cond (eqb kind 2) (Some (Cylinder n.x00 n.x01 n.x02))
    (cond (eqb kind 3) (Some (Cone n.x00 n.x01))
    (cond (eqb kind 4) (Some (Cube (vec n.x00 n.x01 n.x02) (vec n.x03 n.x10 n.x11)))
    (cond (eqb kind 5) (Some (Triangle (vec n.x00 n.x01 n.x02) (vec n.x03 n.x10 n.x11) (vec n.x12 n.x13 n.x20)))
    (closed_of kind n)))))

-- the kinds whose detail is a stripe count (document 02, ii and iii): cylinder and cone, open or closed
unfoldable pub striped : ℕ → Bool
striped kind = eqb kind 2 || (eqb kind 3 || (eqb kind 8 || eqb kind 9))

-- the stripe count of an entry, 0 where its kind has none
unfoldable pub stripe_count : Marks → ℕ
stripe_count m = cond (striped m.kind) m.detail 0

-- a matrix by rows, as a placed part has it
unfoldable pub matrix_of : Numbers → Matrix
matrix_of n =
    mat n.x00 n.x01 n.x02 n.x03
    n.x10 n.x11 n.x12 n.x13
    n.x20 n.x21 n.x22 n.x23
    n.x30 n.x31 n.x32 n.x33

-- a cut's operation: 0 is the intersection and 1 the difference (document 01), 2 and 3 are the same with the true distance (document 02, vi)
unfoldable pub op_of : ℕ → Op
op_of detail = cond (eqb detail 0) Intersection (cond (eqb detail 1) Difference (cond (eqb detail 2) TrueIntersection TrueDifference))

-- the parts that an entry names: that of a placing, or the two of a cut by operations 0 to 3
unfoldable pub parts_of : Marks → Option Parts
parts_of m =
    cond (eqb m.kind 6) (Some (PlacedPart m.first))
    (cond (eqb m.kind 7) (cond (leb m.detail 3) (Some (CutParts (op_of m.detail) m.first m.second)) None) None)

-- kind 7, a cut, by operations 0 to 3
unfoldable pub cut_of : Marks → Option Entry
cut_of m = cond (leb m.detail 3) (Some (Cut (op_of m.detail) m.first m.second)) None

-- kind 6, a placed part with its matrix and its inverse, and kind 7
unfoldable pub composite_of : Marks → Numbers → Numbers → Option Entry
composite_of m n inverse =
    cond (eqb m.kind 6) (Some (Placed (matrix_of n) (matrix_of inverse) m.first))
    (cond (eqb m.kind 7) (cut_of m) None)

unfoldable pub simple_or : Option Solid → Option Entry → Option Entry
simple_or (Some s) e = Some (SimpleEntry s)
simple_or None e = e

unfoldable pub entry_of : Marks → Numbers → Numbers → Option Entry
entry_of m n inverse = simple_or (simple_of m.kind n) (composite_of m n inverse)

-- the numbers of a matrix, by rows
unfoldable pub matrix_numbers : Matrix → Numbers
matrix_numbers m = record {
  x00 = m.x00;
  x01 = m.x01;
  x02 = m.x02;
  x03 = m.x03;
  x10 = m.x10;
  x11 = m.x11;
  x12 = m.x12;
  x13 = m.x13;
  x20 = m.x20;
  x21 = m.x21;
  x22 = m.x22;
  x23 = m.x23;
  x30 = m.x30;
  x31 = m.x31;
  x32 = m.x32;
  x33 = m.x33;
}

abbrev pub marks_at : List ℕ → ℕ → Marks
marks_at marks i = marks_of (row 4 i marks)

abbrev pub numbers_at : List Float → ℕ → Numbers
numbers_at numbers i = numbers_of (row 16 i numbers)

-- whether each of the three lists has entry i
unfoldable pub is_there : List Float → List Float → List ℕ → ℕ → Bool
is_there numbers inverses marks i = ltb i (length numbers / 16) && (ltb i (length inverses / 16) && ltb i (length marks / 4))

-- entry i of a scene with its inverses; `None` where a list does not have it
unfoldable pub entry_at : List Float → List Float → List ℕ → ℕ → Option Entry
entry_at numbers inverses marks i =
    cond (ltb i (length numbers / 16) && (ltb i (length inverses / 16) && ltb i (length marks / 4)))
    (entry_of (marks_at marks i) (numbers_at numbers i) (numbers_at inverses i)) None

-- entry i of a scene, a placing with the inverse of its own matrix
unfoldable pub own_entry : List Float → List ℕ → ℕ → Option Entry
own_entry numbers marks i =
    cond (ltb i (length numbers / 16) && ltb i (length marks / 4))
    (entry_of (marks_at marks i) (numbers_at numbers i) (matrix_numbers (inverted (matrix_of (numbers_at numbers i))).inverse)) None
