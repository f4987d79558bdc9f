use Rattle.solids.specs.Spheres.{sphere_contains}
use Rattle.solids.proofs.sphere.contains.Goals as goal

pub returns : goal.returns
unfolding sphere_contains
returns c =
    simp (← c.sub.ensures, ← c.norm.ensures)
