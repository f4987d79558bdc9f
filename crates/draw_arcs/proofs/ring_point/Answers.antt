use Rattle.draw_arcs.specs.Rings.{ring_point}
use Rattle.draw_arcs.proofs.ring_point.Goals as goal

pub returns : goal.returns
unfolding ring_point
returns c =
    simp (← c.mul_scalar.ensures, ← c.add.ensures, ← c.mul_scalar-2.ensures, ← c.add-2.ensures)
