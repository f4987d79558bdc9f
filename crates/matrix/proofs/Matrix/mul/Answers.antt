use mathlib.Core.Path.{◌∙◌}
use Rattle.matrix.specs.Matrices.{mul_m}
use Rattle.matrix.proofs.Matrix.mul.Goals as goal

pub returns : goal.returns
unfolding mul_m
returns c =
    c.of_rows.ensures ∙ rw (c.row_mul-4.ensures, c.new-4.ensures, c.row_mul-3.ensures, c.new-3.ensures, c.row_mul-2.ensures, c.new-2.ensures, c.row_mul.ensures, c.new.ensures)
