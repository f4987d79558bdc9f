use Rattle.geometry.specs.Vectors.{min_component}
use Rattle.geometry.proofs.vector.Vector.min_component.Goals as goal

pub returns : goal.returns
unfolding min_component
returns c =
    simp (← c.min.ensures, ← c.min-2.ensures)
