use mathlib.Core.Path.{refl}
use Rattle.geometry.specs.Hits.{is_ok}
use Rattle.geometry.proofs.hit.Hit.is_ok.Goals as goal

pub returns : goal.returns
unfolding is_ok
returns c =
    refl
