use mathlib.Core.Path.{refl}
use Rattle.matrix.specs.Matrices.{mul_vector}
use Rattle.matrix.proofs.Matrix.mul_vector.Goals as goal

pub returns : goal.returns
unfolding mul_vector
returns c =
    refl
