use mathlib.Core.Path.{refl}
use Rattle.geometry.specs.Vectors.{dot}
use Rattle.geometry.proofs.vector.Vector.dot.Goals as goal

pub returns : goal.returns
unfolding dot
returns c =
    refl
