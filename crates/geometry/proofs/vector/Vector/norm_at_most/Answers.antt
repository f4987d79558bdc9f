use Rattle.geometry.specs.Vectors.{length_of}
use Rattle.geometry.proofs.vector.Vector.norm_at_most.Goals as goal

pub returns : goal.returns
unfolding length_of
returns c =
    simp (← c.length_squared.ensures, ← c.root_at_most.ensures)
