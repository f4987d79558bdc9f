use Rattle.test_leaves.specs.Records.{distance_right}
use Rattle.test_leaves.proofs.distance_right.Goals as goal

pub returns : goal.returns
unfolding distance_right
returns c =
    simp (← c.point_at-a.ensures, ← c.point_at-b.ensures, ← c.distance.ensures.0, ← c.distance.ensures.1, ← c.rooted_right.ensures)
