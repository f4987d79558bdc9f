use Rattle.draw_rings.specs.Spheres.{sphere_ring}
use Rattle.draw_outlines.proofs.sphere_ring.Goals as goal

pub returns : goal.returns
unfolding sphere_ring
returns c =
    simp (← c.root.ensures)
