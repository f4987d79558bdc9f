use mathlib.Core.Path.{refl}
use Rattle.geometry.specs.Vectors.{length_squared, dot}
use Rattle.geometry.proofs.vector.Vector.length_squared.Goals as goal

pub returns : goal.returns
unfolding length_squared dot
returns c =
    refl
