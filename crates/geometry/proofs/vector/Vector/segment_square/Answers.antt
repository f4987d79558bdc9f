use Rattle.geometry.specs.Vectors.{segment_square}
use Rattle.geometry.proofs.vector.Vector.segment_square.Goals as goal

pub returns-then-l2 : goal.returns-then-l2
unfolding segment_square
returns-then-l2 c =
    simp (← c.distance_squared-l2.ensures, c.if-l2.true, ← c.distance_squared.ensures)

pub returns : goal.returns
unfolding segment_square
returns c =
    simp (← c.distance_squared-l2.ensures, c.if-l2.false, ← c.sub.ensures, ← c.sub-2.ensures, ← c.dot.ensures, ← c.foot_square.ensures)
