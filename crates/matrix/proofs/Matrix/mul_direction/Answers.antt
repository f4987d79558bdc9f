use Rattle.matrix.specs.Matrices.{mul_direction}
use Rattle.matrix.proofs.Matrix.mul_direction.Goals as goal

pub returns : goal.returns
unfolding mul_direction
returns c =
    simp (← c.mul_vector.ensures, ← c.normalize.ensures)
