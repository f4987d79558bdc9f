use Rattle.geometry.specs.Boxes.{size_of}
use Rattle.geometry.proofs.bounding_box.BBox.size.Goals as goal

pub returns : goal.returns
unfolding size_of
returns c =
    simp (← c.sub.ensures)
