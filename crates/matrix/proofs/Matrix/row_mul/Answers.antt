use mathlib.Core.Path.{refl}
use Rattle.matrix.specs.Matrices.{row_mul}
use Rattle.matrix.proofs.Matrix.row_mul.Goals as goal

pub returns : goal.returns
unfolding row_mul
returns c =
    refl
