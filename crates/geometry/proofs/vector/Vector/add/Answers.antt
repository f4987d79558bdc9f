use mathlib.Core.Path.{refl}
use Rattle.geometry.specs.Vectors.{add_v}
use Rattle.geometry.proofs.vector.Vector.add.Goals as goal

pub returns : goal.returns
unfolding add_v
returns c =
    refl
