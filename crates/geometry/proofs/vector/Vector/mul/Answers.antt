use mathlib.Core.Path.{refl}
use Rattle.geometry.specs.Vectors.{mul_v}
use Rattle.geometry.proofs.vector.Vector.mul.Goals as goal

pub returns : goal.returns
unfolding mul_v
returns c =
    refl
