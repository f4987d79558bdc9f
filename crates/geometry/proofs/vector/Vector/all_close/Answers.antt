use Rattle.geometry.specs.Vectors.{all_close}
use Rattle.geometry.proofs.vector.Vector.all_close.Goals as goal

pub returns : goal.returns
unfolding all_close
returns c =
    simp (← c.sub.ensures, ← c.abs.ensures, ← c.max_component.ensures)
