use mathlib.Core.Path.{refl}
use Rattle.matrix.specs.Matrices.{mul_position}
use Rattle.matrix.proofs.Matrix.mul_position.Goals as goal

pub returns : goal.returns
unfolding mul_position
returns c =
    refl
