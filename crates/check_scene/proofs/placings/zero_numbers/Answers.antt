use Rattle.check_scene.specs.Placings.{zero_numbers}
use mathlib.Core.Path.{refl}
use Rattle.check_scene.proofs.placings.zero_numbers.Goals as goal

pub returns : goal.returns
unfolding zero_numbers
returns c =
    refl
