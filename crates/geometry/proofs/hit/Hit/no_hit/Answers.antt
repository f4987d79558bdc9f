use mathlib.Core.Path.{refl}
use Rattle.geometry.proofs.hit.Hit.no_hit.Goals as goal

pub returns : goal.returns
returns c =
    refl
