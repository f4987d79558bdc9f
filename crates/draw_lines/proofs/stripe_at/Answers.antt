use mathlib.Core.Path.{refl}
use Rattle.draw_lines.specs.Cubes.{stripe_at}
use Rattle.draw_lines.proofs.stripe_at.Goals as goal

pub returns : goal.returns
unfolding stripe_at
returns c =
    refl
