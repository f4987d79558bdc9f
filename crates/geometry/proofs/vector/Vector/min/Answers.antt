use Rattle.geometry.specs.Vectors.{min_v}
use Rattle.geometry.proofs.vector.Vector.min.Goals as goal

pub returns : goal.returns
unfolding min_v
returns c =
    simp (← c.min.ensures, ← c.min-2.ensures, ← c.min-3.ensures)
