use Rattle.test_leaves.specs.Records.{projection_right}
use Rattle.test_leaves.proofs.projection_right.Goals as goal

pub returns : goal.returns
unfolding projection_right
returns c =
    simp (← c.numbers_from.ensures, ← c.matrix_of-m.ensures, ← c.point_at.ensures, ← c.mul_position_w-p.ensures, ← c.all_same.ensures)
