use mathlib.Core.Path.{refl}
use Rattle.host.proofs.sixteen.Goals as goal

pub returns : goal.returns
returns c =
    refl
