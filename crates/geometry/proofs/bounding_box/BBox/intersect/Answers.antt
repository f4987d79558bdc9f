use Rattle.geometry.specs.Boxes.{box_test, overlap}
use Rattle.geometry.proofs.bounding_box.BBox.intersect.Goals as goal

pub returns : goal.returns
unfolding box_test overlap
returns c =
    simp (← c.slab-x.ensures, ← c.slab-y.ensures, ← c.slab-z.ensures, ← c.max.ensures, ← c.max-2.ensures, ← c.min.ensures, ← c.min-2.ensures)
