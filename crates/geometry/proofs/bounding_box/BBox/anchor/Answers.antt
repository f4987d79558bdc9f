use Rattle.geometry.specs.Boxes.{anchor_of}
use Rattle.geometry.proofs.bounding_box.BBox.anchor.Goals as goal

pub returns : goal.returns
unfolding anchor_of
returns c =
    simp (← c.size.ensures, ← c.mul.ensures, ← c.add.ensures)
