use mathlib.Core.Path.{refl}
use Rattle.geometry.specs.Vectors.{cross}
use Rattle.geometry.proofs.vector.Vector.cross.Goals as goal

pub returns : goal.returns
unfolding cross
returns c =
    refl
