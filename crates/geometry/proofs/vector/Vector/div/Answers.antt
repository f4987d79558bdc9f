use mathlib.Core.Path.{refl}
use Rattle.geometry.specs.Vectors.{div_v}
use Rattle.geometry.proofs.vector.Vector.div.Goals as goal

pub returns : goal.returns
unfolding div_v
returns c =
    refl
