use mathlib.Core.Path.{refl}
use Rattle.geometry.specs.Vectors.{div_scalar}
use Rattle.geometry.proofs.vector.Vector.div_scalar.Goals as goal

pub returns : goal.returns
unfolding div_scalar
returns c =
    refl
