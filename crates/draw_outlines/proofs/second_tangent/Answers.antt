use mathlib.Core.Path.{refl}
use Rattle.draw_outlines.specs.Outlines.{second_tangent}
use Rattle.draw_outlines.proofs.second_tangent.Goals as goal

pub returns : goal.returns
unfolding second_tangent
returns c =
    refl
