use Rattle.geometry.specs.Boxes.{slab}
use Rattle.geometry.proofs.bounding_box.slab.Goals as goal

pub returns : goal.returns
unfolding slab
returns c =
    simp (← c.ordered.ensures)
