use Rattle.draw_arcs.specs.Rings.{ends_halving, ring_stops}
use Rattle.draw_arcs.proofs.ends_halving.Goals as goal

pub returns-then-stepping : goal.returns-then-stepping
unfolding ends_halving ring_stops
returns-then-stepping c =
    simp (c.if-stepping.true, ← c.ring_point.ensures, ← c.placed_spot-a.ensures, ← c.ring_point-then-stepping.ensures, ← c.placed_spot-b.ensures, ← c.stops.ensures)

pub returns : goal.returns
unfolding ends_halving ring_stops
returns c =
    simp c.if-stepping.false
