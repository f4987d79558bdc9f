use Rattle.test_leaves.specs.Records.{length_right}
use Rattle.test_leaves.proofs.length_right.Goals as goal

pub returns : goal.returns
unfolding length_right
returns c =
    simp (← c.point_at-v.ensures, ← c.length.ensures.0, ← c.length.ensures.1, ← c.rooted_right.ensures)
