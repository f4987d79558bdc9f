use Rattle.geometry.specs.Vectors.{length_of}
use Rattle.geometry.proofs.vector.Vector.norm.Goals as goal

pub returns : goal.returns
unfolding length_of
returns c =
    simp (← c.length_squared.ensures, ← c.root.ensures)
