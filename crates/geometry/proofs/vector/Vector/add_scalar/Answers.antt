use mathlib.Core.Path.{refl}
use Rattle.geometry.specs.Vectors.{add_scalar}
use Rattle.geometry.proofs.vector.Vector.add_scalar.Goals as goal

pub returns : goal.returns
unfolding add_scalar
returns c =
    refl
