use mathlib.Core.Path.{refl}
use Rattle.draw_outlines.specs.Outlines.{first_tangent}
use Rattle.draw_outlines.proofs.first_tangent.Goals as goal

pub returns : goal.returns
unfolding first_tangent
returns c =
    refl
