use Rattle.solids.specs.Cylinders.{cylinder_box}
use Rattle.solids.proofs.cylinder.bounding_box.Goals as goal

pub returns : goal.returns
unfolding cylinder_box
returns c =
    simp (← c.new.ensures, ← c.new-2.ensures, ← c.new-3.ensures)
