use mathlib.Core.Path.{refl}
use Rattle.geometry.proofs.hit.Hit.new.Goals as goal

pub returns : goal.returns
returns c =
    refl
