use mathlib.Core.Path.{refl}
use Rattle.host.proofs.point.Goals as goal

pub returns : goal.returns
returns c =
    refl
