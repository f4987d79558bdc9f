use Rattle.geometry.specs.Rays.{position}
use Rattle.geometry.proofs.ray.Ray.position.Goals as goal

pub returns : goal.returns
unfolding position
returns c =
    simp (← c.mul_scalar.ensures, ← c.add.ensures)
