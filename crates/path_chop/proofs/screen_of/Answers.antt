use Rattle.path_chop.specs.Chop as Chop
use mathlib.Core.Path.{refl}
use Rattle.path_chop.proofs.screen_of.Goals as goal

pub returns : goal.returns
unfolding Chop.screen_of
returns c =
    refl
