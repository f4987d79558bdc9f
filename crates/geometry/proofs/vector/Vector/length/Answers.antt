use mathlib.Core.Path.{ap, ◌∙◌}
use Rattle.sqrt.specs.Root.{sqrt_of, rest_of}
use Rattle.geometry.specs.Vectors.{length_of, length_rest}
use Rattle.geometry.proofs.vector.Vector.length.Goals as goal

pub returns : goal.returns
unfolding length_of length_rest
returns c =
    (c.sqrt.ensures.0 ∙ ap sqrt_of c.length_squared.ensures, c.sqrt.ensures.1 ∙ ap rest_of c.length_squared.ensures)
