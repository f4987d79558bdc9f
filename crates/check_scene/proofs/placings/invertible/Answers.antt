use Rattle.check_scene.specs.Placings.{invertible}
use mathlib.Core.Path.{◌∙◌}
use Rattle.check_scene.proofs.placings.invertible.Goals as goal

pub returns-then-v : goal.returns-then-v
unfolding invertible
returns-then-v c =
    rw c.if-v.true

pub returns : goal.returns
unfolding invertible
returns c =
    c.finite_matrix.ensures ∙ rw c.if-v.false
