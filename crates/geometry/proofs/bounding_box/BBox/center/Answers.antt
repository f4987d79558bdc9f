use Rattle.geometry.specs.Boxes.{center_of}
use Rattle.geometry.proofs.bounding_box.BBox.center.Goals as goal

pub returns : goal.returns
unfolding center_of
returns c =
    simp (← c.new.ensures, ← c.anchor.ensures)
