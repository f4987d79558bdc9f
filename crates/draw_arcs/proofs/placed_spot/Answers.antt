use Rattle.draw_arcs.specs.Rings.{placed_spot}
use Rattle.draw_arcs.proofs.placed_spot.Goals as goal

pub returns : goal.returns
unfolding placed_spot
returns c =
    simp (← c.moved.ensures, ← c.spot_of.ensures)
