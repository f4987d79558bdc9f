use mathlib.Core.Path.{refl}
use Rattle.draw_outlines.specs.Outlines.{cone_side}
use Rattle.draw_outlines.proofs.cone_side.Goals as goal

pub returns : goal.returns
unfolding cone_side
returns c =
    refl
