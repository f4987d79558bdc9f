use Rattle.draw_rings.specs.Pieces.{ring_middle, times_radius}
use Rattle.draw_arcs.proofs.ring_middle.Goals as goal

pub returns-in_err-v : goal.returns-in_err-v
unfolding ring_middle times_radius
returns-in_err-v c =
    simp (c.from_residual.ensures, ← c.add.ensures, ← c.normalize.ensures, c.in_err-v.was)

pub returns : goal.returns
unfolding ring_middle times_radius
returns c =
    simp (← c.add.ensures, ← c.normalize.ensures, c.in_ok-v.was, ← c.mul_scalar.ensures)
