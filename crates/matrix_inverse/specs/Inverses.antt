-- The inverse and the determinant of a matrix (matrix.rs): the Rust's formulas, in its order of operations.
use Rattle.std.specs.Prelude.{Float}
use Rattle.floats.specs.Arith.{◌⊕◌, ◌⊖◌, ◌⊗◌, ◌⊘◌}
use Rattle.matrix.specs.declared.Matrix.{Matrix}
use Rattle.matrix_inverse.specs.declared.Inverted.{Inverted}

unfoldable pub determinant : Matrix → Float
determinant a =
    a.x00 ⊗ a.x11 ⊗ a.x22 ⊗ a.x33
    ⊖ a.x00 ⊗ a.x11 ⊗ a.x23 ⊗ a.x32
    ⊕ a.x00 ⊗ a.x12 ⊗ a.x23 ⊗ a.x31
    ⊖ a.x00 ⊗ a.x12 ⊗ a.x21 ⊗ a.x33
    ⊕ a.x00 ⊗ a.x13 ⊗ a.x21 ⊗ a.x32
    ⊖ a.x00 ⊗ a.x13 ⊗ a.x22 ⊗ a.x31
    ⊖ a.x01 ⊗ a.x12 ⊗ a.x23 ⊗ a.x30
    ⊕ a.x01 ⊗ a.x12 ⊗ a.x20 ⊗ a.x33
    ⊖ a.x01 ⊗ a.x13 ⊗ a.x20 ⊗ a.x32
    ⊕ a.x01 ⊗ a.x13 ⊗ a.x22 ⊗ a.x30
    ⊖ a.x01 ⊗ a.x10 ⊗ a.x22 ⊗ a.x33
    ⊕ a.x01 ⊗ a.x10 ⊗ a.x23 ⊗ a.x32
    ⊕ a.x02 ⊗ a.x13 ⊗ a.x20 ⊗ a.x31
    ⊖ a.x02 ⊗ a.x13 ⊗ a.x21 ⊗ a.x30
    ⊕ a.x02 ⊗ a.x10 ⊗ a.x21 ⊗ a.x33
    ⊖ a.x02 ⊗ a.x10 ⊗ a.x23 ⊗ a.x31
    ⊕ a.x02 ⊗ a.x11 ⊗ a.x23 ⊗ a.x30
    ⊖ a.x02 ⊗ a.x11 ⊗ a.x20 ⊗ a.x33
    ⊖ a.x03 ⊗ a.x10 ⊗ a.x21 ⊗ a.x32
    ⊕ a.x03 ⊗ a.x10 ⊗ a.x22 ⊗ a.x31
    ⊖ a.x03 ⊗ a.x11 ⊗ a.x22 ⊗ a.x30
    ⊕ a.x03 ⊗ a.x11 ⊗ a.x20 ⊗ a.x32
    ⊖ a.x03 ⊗ a.x12 ⊗ a.x20 ⊗ a.x31
    ⊕ a.x03 ⊗ a.x12 ⊗ a.x21 ⊗ a.x30

-- the cofactors, transposed, each over d
unfoldable pub adjugate_over : Matrix → Float → Matrix
adjugate_over a d = record {
  x00 = (a.x12 ⊗ a.x23 ⊗ a.x31 ⊖ a.x13 ⊗ a.x22 ⊗ a.x31 ⊕ a.x13 ⊗ a.x21 ⊗ a.x32 ⊖ a.x11 ⊗ a.x23 ⊗ a.x32 ⊖ a.x12 ⊗ a.x21 ⊗ a.x33 ⊕ a.x11 ⊗ a.x22 ⊗ a.x33) ⊘ d;
  x01 = (a.x03 ⊗ a.x22 ⊗ a.x31 ⊖ a.x02 ⊗ a.x23 ⊗ a.x31 ⊖ a.x03 ⊗ a.x21 ⊗ a.x32 ⊕ a.x01 ⊗ a.x23 ⊗ a.x32 ⊕ a.x02 ⊗ a.x21 ⊗ a.x33 ⊖ a.x01 ⊗ a.x22 ⊗ a.x33) ⊘ d;
  x02 = (a.x02 ⊗ a.x13 ⊗ a.x31 ⊖ a.x03 ⊗ a.x12 ⊗ a.x31 ⊕ a.x03 ⊗ a.x11 ⊗ a.x32 ⊖ a.x01 ⊗ a.x13 ⊗ a.x32 ⊖ a.x02 ⊗ a.x11 ⊗ a.x33 ⊕ a.x01 ⊗ a.x12 ⊗ a.x33) ⊘ d;
  x03 = (a.x03 ⊗ a.x12 ⊗ a.x21 ⊖ a.x02 ⊗ a.x13 ⊗ a.x21 ⊖ a.x03 ⊗ a.x11 ⊗ a.x22 ⊕ a.x01 ⊗ a.x13 ⊗ a.x22 ⊕ a.x02 ⊗ a.x11 ⊗ a.x23 ⊖ a.x01 ⊗ a.x12 ⊗ a.x23) ⊘ d;
  x10 = (a.x13 ⊗ a.x22 ⊗ a.x30 ⊖ a.x12 ⊗ a.x23 ⊗ a.x30 ⊖ a.x13 ⊗ a.x20 ⊗ a.x32 ⊕ a.x10 ⊗ a.x23 ⊗ a.x32 ⊕ a.x12 ⊗ a.x20 ⊗ a.x33 ⊖ a.x10 ⊗ a.x22 ⊗ a.x33) ⊘ d;
  x11 = (a.x02 ⊗ a.x23 ⊗ a.x30 ⊖ a.x03 ⊗ a.x22 ⊗ a.x30 ⊕ a.x03 ⊗ a.x20 ⊗ a.x32 ⊖ a.x00 ⊗ a.x23 ⊗ a.x32 ⊖ a.x02 ⊗ a.x20 ⊗ a.x33 ⊕ a.x00 ⊗ a.x22 ⊗ a.x33) ⊘ d;
  x12 = (a.x03 ⊗ a.x12 ⊗ a.x30 ⊖ a.x02 ⊗ a.x13 ⊗ a.x30 ⊖ a.x03 ⊗ a.x10 ⊗ a.x32 ⊕ a.x00 ⊗ a.x13 ⊗ a.x32 ⊕ a.x02 ⊗ a.x10 ⊗ a.x33 ⊖ a.x00 ⊗ a.x12 ⊗ a.x33) ⊘ d;
  x13 = (a.x02 ⊗ a.x13 ⊗ a.x20 ⊖ a.x03 ⊗ a.x12 ⊗ a.x20 ⊕ a.x03 ⊗ a.x10 ⊗ a.x22 ⊖ a.x00 ⊗ a.x13 ⊗ a.x22 ⊖ a.x02 ⊗ a.x10 ⊗ a.x23 ⊕ a.x00 ⊗ a.x12 ⊗ a.x23) ⊘ d;
  x20 = (a.x11 ⊗ a.x23 ⊗ a.x30 ⊖ a.x13 ⊗ a.x21 ⊗ a.x30 ⊕ a.x13 ⊗ a.x20 ⊗ a.x31 ⊖ a.x10 ⊗ a.x23 ⊗ a.x31 ⊖ a.x11 ⊗ a.x20 ⊗ a.x33 ⊕ a.x10 ⊗ a.x21 ⊗ a.x33) ⊘ d;
  x21 = (a.x03 ⊗ a.x21 ⊗ a.x30 ⊖ a.x01 ⊗ a.x23 ⊗ a.x30 ⊖ a.x03 ⊗ a.x20 ⊗ a.x31 ⊕ a.x00 ⊗ a.x23 ⊗ a.x31 ⊕ a.x01 ⊗ a.x20 ⊗ a.x33 ⊖ a.x00 ⊗ a.x21 ⊗ a.x33) ⊘ d;
  x22 = (a.x01 ⊗ a.x13 ⊗ a.x30 ⊖ a.x03 ⊗ a.x11 ⊗ a.x30 ⊕ a.x03 ⊗ a.x10 ⊗ a.x31 ⊖ a.x00 ⊗ a.x13 ⊗ a.x31 ⊖ a.x01 ⊗ a.x10 ⊗ a.x33 ⊕ a.x00 ⊗ a.x11 ⊗ a.x33) ⊘ d;
  x23 = (a.x03 ⊗ a.x11 ⊗ a.x20 ⊖ a.x01 ⊗ a.x13 ⊗ a.x20 ⊖ a.x03 ⊗ a.x10 ⊗ a.x21 ⊕ a.x00 ⊗ a.x13 ⊗ a.x21 ⊕ a.x01 ⊗ a.x10 ⊗ a.x23 ⊖ a.x00 ⊗ a.x11 ⊗ a.x23) ⊘ d;
  x30 = (a.x12 ⊗ a.x21 ⊗ a.x30 ⊖ a.x11 ⊗ a.x22 ⊗ a.x30 ⊖ a.x12 ⊗ a.x20 ⊗ a.x31 ⊕ a.x10 ⊗ a.x22 ⊗ a.x31 ⊕ a.x11 ⊗ a.x20 ⊗ a.x32 ⊖ a.x10 ⊗ a.x21 ⊗ a.x32) ⊘ d;
  x31 = (a.x01 ⊗ a.x22 ⊗ a.x30 ⊖ a.x02 ⊗ a.x21 ⊗ a.x30 ⊕ a.x02 ⊗ a.x20 ⊗ a.x31 ⊖ a.x00 ⊗ a.x22 ⊗ a.x31 ⊖ a.x01 ⊗ a.x20 ⊗ a.x32 ⊕ a.x00 ⊗ a.x21 ⊗ a.x32) ⊘ d;
  x32 = (a.x02 ⊗ a.x11 ⊗ a.x30 ⊖ a.x01 ⊗ a.x12 ⊗ a.x30 ⊖ a.x02 ⊗ a.x10 ⊗ a.x31 ⊕ a.x00 ⊗ a.x12 ⊗ a.x31 ⊕ a.x01 ⊗ a.x10 ⊗ a.x32 ⊖ a.x00 ⊗ a.x11 ⊗ a.x32) ⊘ d;
  x33 = (a.x01 ⊗ a.x12 ⊗ a.x20 ⊖ a.x02 ⊗ a.x11 ⊗ a.x20 ⊕ a.x02 ⊗ a.x10 ⊗ a.x21 ⊖ a.x00 ⊗ a.x12 ⊗ a.x21 ⊖ a.x01 ⊗ a.x10 ⊗ a.x22 ⊕ a.x00 ⊗ a.x11 ⊗ a.x22) ⊘ d;
}

-- the inverse, with the determinant that it divides by
unfoldable pub inverted : Matrix → Inverted
inverted a = record { inverse = adjugate_over a (determinant a); determinant = determinant a }
