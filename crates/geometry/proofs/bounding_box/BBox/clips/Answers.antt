use Rattle.geometry.specs.Boxes.{contains}
use Rattle.geometry.proofs.bounding_box.BBox.clips.Goals as goal

pub returns : goal.returns
unfolding contains
returns c =
    simp (← c.contains.ensures)
