use Rattle.geometry.specs.Vectors.{abs_v}
use Rattle.geometry.proofs.vector.Vector.abs.Goals as goal

pub returns : goal.returns
unfolding abs_v
returns c =
    simp (← c.abs.ensures, ← c.abs-2.ensures, ← c.abs-3.ensures)
