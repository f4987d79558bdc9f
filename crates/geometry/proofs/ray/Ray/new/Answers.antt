use mathlib.Core.Path.{refl}
use Rattle.geometry.proofs.ray.Ray.new.Goals as goal

pub returns : goal.returns
returns c =
    refl
