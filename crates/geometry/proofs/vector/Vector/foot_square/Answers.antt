use Rattle.geometry.specs.Vectors.{foot_square}
use Rattle.geometry.proofs.vector.Vector.foot_square.Goals as goal

pub returns-then-t : goal.returns-then-t
unfolding foot_square
returns-then-t c =
    simp (c.if-t.true, ← c.distance_squared.ensures)

pub returns-then-t-2 : goal.returns-then-t-2
unfolding foot_square
returns-then-t-2 c =
    simp (c.if-t.false, c.if-t-2.true, ← c.distance_squared-then-t-2.ensures)

pub returns : goal.returns
unfolding foot_square
returns c =
    simp (c.if-t.false, c.if-t-2.false, ← c.sub.ensures, ← c.mul_scalar.ensures, ← c.add.ensures, ← c.distance_squared-2.ensures)
