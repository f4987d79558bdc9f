use Rattle.solids.specs.Triangles.{triangle_box}
use Rattle.solids.proofs.triangle.bounding_box.Goals as goal

pub returns : goal.returns
unfolding triangle_box
returns c =
    simp (← c.min.ensures, ← c.min-2.ensures, ← c.max.ensures, ← c.max-2.ensures, ← c.new.ensures)
