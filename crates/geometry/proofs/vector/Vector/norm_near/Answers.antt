use Rattle.geometry.specs.Vectors.{length_of}
use Rattle.geometry.proofs.vector.Vector.norm_near.Goals as goal

pub returns : goal.returns
unfolding length_of
returns c =
    simp (← c.length_squared.ensures, ← c.root_near.ensures)
