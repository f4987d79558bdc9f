use mathlib.Core.Path.{refl}
use Rattle.draw_outlines.specs.Outlines.{eye_square}
use Rattle.draw_outlines.proofs.eye_square.Goals as goal

pub returns : goal.returns
unfolding eye_square
returns c =
    refl
