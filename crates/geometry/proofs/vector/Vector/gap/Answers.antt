use Rattle.geometry.specs.Vectors.{distance_of}
use Rattle.geometry.proofs.vector.Vector.gap.Goals as goal

pub returns : goal.returns
unfolding distance_of
returns c =
    simp (← c.sub.ensures, ← c.norm.ensures)
