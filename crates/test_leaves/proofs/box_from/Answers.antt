use Rattle.test_leaves.specs.Inputs.{box_from}
use Rattle.test_leaves.proofs.box_from.Goals as goal

pub returns : goal.returns
unfolding box_from
returns c =
    simp (← c.point_at.ensures, ← c.point_at-2.ensures, ← c.new.ensures)
