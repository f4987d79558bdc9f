use Rattle.geometry.specs.Vectors.{max_v}
use Rattle.geometry.proofs.vector.Vector.max.Goals as goal

pub returns : goal.returns
unfolding max_v
returns c =
    simp (← c.max.ensures, ← c.max-2.ensures, ← c.max-3.ensures)
