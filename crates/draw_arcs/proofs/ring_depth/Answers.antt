use Rattle.draw_arcs.specs.Rings.{ring_depth}
use Rattle.draw_arcs.proofs.ring_depth.Goals as goal

pub returns-then-stepping : goal.returns-then-stepping
unfolding ring_depth
returns-then-stepping c =
    simp c.if-stepping.true

pub returns-else-stepping : goal.returns-else-stepping
unfolding ring_depth
returns-else-stepping c =
    simp c.if-stepping.false
