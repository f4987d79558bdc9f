use mathlib.Core.Path.{refl}
use Rattle.host.proofs.ray_from.Goals as goal

pub returns : goal.returns
returns c =
    refl
