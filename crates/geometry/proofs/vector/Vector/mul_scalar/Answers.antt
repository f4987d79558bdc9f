use mathlib.Core.Path.{refl}
use Rattle.geometry.specs.Vectors.{mul_scalar}
use Rattle.geometry.proofs.vector.Vector.mul_scalar.Goals as goal

pub returns : goal.returns
unfolding mul_scalar
returns c =
    refl
