use Rattle.geometry.specs.Vectors.{max_component}
use Rattle.geometry.proofs.vector.Vector.max_component.Goals as goal

pub returns : goal.returns
unfolding max_component
returns c =
    simp (← c.max.ensures, ← c.max-2.ensures)
