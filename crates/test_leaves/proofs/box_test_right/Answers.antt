use Rattle.test_leaves.specs.Records.{box_test_right}
use Rattle.test_leaves.proofs.box_test_right.Goals as goal

pub returns : goal.returns
unfolding box_test_right
returns c =
    simp (← c.box_from.ensures, ← c.ray_at.ensures, ← c.intersect-t.ensures, ← c.all_same.ensures)
