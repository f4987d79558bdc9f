use Rattle.matrix.specs.Matrices.{mul_position_w}
use Rattle.matrix.proofs.Matrix.mul_position_w.Goals as goal

pub returns : goal.returns
unfolding mul_position_w
returns c =
    simp (← c.mul_position.ensures, ← c.div_scalar.ensures)
