use Rattle.matrix.specs.Matrices.{mul_ray}
use Rattle.matrix.proofs.Matrix.mul_ray.Goals as goal

pub returns : goal.returns
unfolding mul_ray
returns c =
    simp (← c.mul_vector-d.ensures, ← c.norm_near-scale.ensures, ← c.mul_position.ensures, ← c.div_scalar.ensures, ← c.new.ensures)
