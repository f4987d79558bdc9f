use mathlib.Core.Path.{refl}
use Rattle.draw_render.specs.Render.{stepping}
use Rattle.draw_render.proofs.stepping.Goals as goal

pub returns : goal.returns
unfolding stepping
returns c =
    refl
