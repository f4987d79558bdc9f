use mathlib.Core.Path.{refl}
use Rattle.draw_rings.specs.Spheres.{sphere_reach}
use Rattle.draw_outlines.proofs.sphere_reach.Goals as goal

pub returns : goal.returns
unfolding sphere_reach
returns c =
    refl
