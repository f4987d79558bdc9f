use Rattle.solids.specs.Cones.{cone_box}
use Rattle.solids.proofs.cone.bounding_box.Goals as goal

pub returns : goal.returns
unfolding cone_box
returns c =
    simp (← c.new.ensures, ← c.new-2.ensures, ← c.new-3.ensures)
