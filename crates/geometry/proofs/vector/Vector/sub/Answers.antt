use mathlib.Core.Path.{refl}
use Rattle.geometry.specs.Vectors.{sub_v}
use Rattle.geometry.proofs.vector.Vector.sub.Goals as goal

pub returns : goal.returns
unfolding sub_v
returns c =
    refl
