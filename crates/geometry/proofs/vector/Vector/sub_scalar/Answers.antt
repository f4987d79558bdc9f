use mathlib.Core.Path.{refl}
use Rattle.geometry.specs.Vectors.{sub_scalar}
use Rattle.geometry.proofs.vector.Vector.sub_scalar.Goals as goal

pub returns : goal.returns
unfolding sub_scalar
returns c =
    refl
