use Rattle.draw_outlines.specs.Outlines.{unit_of}
use Rattle.draw_outlines.proofs.unit.Goals as goal

pub returns : goal.returns
unfolding unit_of
returns c =
    simp (← c.norm.ensures, ← c.div_scalar.ensures)
