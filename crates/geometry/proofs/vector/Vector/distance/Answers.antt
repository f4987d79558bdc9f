use mathlib.Core.Path.{ap, ◌∙◌}
use Rattle.geometry.specs.Vectors.{length_of, length_rest, distance_of, distance_rest}
use Rattle.geometry.proofs.vector.Vector.distance.Goals as goal

pub returns : goal.returns
unfolding distance_of distance_rest
returns c =
    (c.length.ensures.0 ∙ ap length_of c.sub.ensures, c.length.ensures.1 ∙ ap length_rest c.sub.ensures)
