use Rattle.solids.specs.Spheres.{sphere_box}
use Rattle.solids.proofs.sphere.bounding_box.Goals as goal

pub returns : goal.returns
unfolding sphere_box
returns c =
    simp (← c.sub_scalar.ensures, ← c.add_scalar.ensures, ← c.new.ensures)
