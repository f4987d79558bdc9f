use Rattle.draw_outlines.specs.Outlines.{facing}
use Rattle.draw_outlines.proofs.facing.Goals as goal

pub returns : goal.returns
unfolding facing
returns c =
    simp (← c.mul_scalar.ensures, ← c.add-center.ensures, ← c.min_axis.ensures, ← c.cross.ensures, ← c.unit-first.ensures, ← c.cross-second.ensures)
