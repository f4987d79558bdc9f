use mathlib.Core.Path.{refl}
use Rattle.geometry.proofs.vector.Vector.new.Goals as goal

pub returns : goal.returns
returns c =
    refl
