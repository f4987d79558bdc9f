use Rattle.geometry.specs.Boxes.{extend_box}
use Rattle.geometry.proofs.bounding_box.BBox.extend.Goals as goal

pub returns : goal.returns
unfolding extend_box
returns c =
    simp (← c.min.ensures, ← c.max.ensures)
