use Rattle.geometry.specs.Vectors.{distance_squared}
use Rattle.geometry.proofs.vector.Vector.distance_squared.Goals as goal

pub returns : goal.returns
unfolding distance_squared
returns c =
    simp (← c.sub.ensures, ← c.length_squared.ensures)
