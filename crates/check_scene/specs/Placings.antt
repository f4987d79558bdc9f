-- Document 01's number 6: a placing has an inverse.
use Rattle.std.specs.Prelude.{ℕ, Bool, true, not, ◌&&◌, cond, List, eqb, Float}
use Rattle.std.specs.Float.Ieee.{eq}
use Rattle.floats.specs.Arith.{zero_f}
use Rattle.matrix_inverse.specs.Inverses.{inverted}
use Rattle.matrix_inverse.specs.declared.Inverted.{Inverted}
use Rattle.rows.specs.declared.Marks.{Marks}
use Rattle.rows.specs.declared.Numbers.{Numbers}
use Rattle.scene.specs.Entries.{matrix_of, matrix_numbers, marks_at, numbers_at}
use Rattle.limits.specs.Limits.{finite_matrix}

-- judged by the one answer: the determinant is not 0 of either sign, and each number of the inverse is finite
unfoldable pub invertible : Inverted → Bool
invertible v = not (eq v.determinant zero_f) && finite_matrix v.inverse

unfoldable pub placing_ok : Marks → Numbers → Bool
placing_ok m n = cond (eqb m.kind 6) (invertible (inverted (matrix_of n))) true

unfoldable pub zero_numbers : Numbers
zero_numbers = record {
  x00 = zero_f;
  x01 = zero_f;
  x02 = zero_f;
  x03 = zero_f;
  x10 = zero_f;
  x11 = zero_f;
  x12 = zero_f;
  x13 = zero_f;
  x20 = zero_f;
  x21 = zero_f;
  x22 = zero_f;
  x23 = zero_f;
  x30 = zero_f;
  x31 = zero_f;
  x32 = zero_f;
  x33 = zero_f;
}

-- what is stored of an entry: the inverse of a placing, zeros of another kind
unfoldable pub inverse_of : Marks → Numbers → Numbers
inverse_of m n = cond (eqb m.kind 6) (matrix_numbers (inverted (matrix_of n)).inverse) zero_numbers

abbrev pub inverse_at : List Float → List ℕ → ℕ → Numbers
inverse_at numbers marks i = inverse_of (marks_at marks i) (numbers_at numbers i)
