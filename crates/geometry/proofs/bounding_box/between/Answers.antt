use Rattle.geometry.specs.Boxes.{in_range}
use Rattle.geometry.proofs.bounding_box.between.Goals as goal

pub returns-then-low-x : goal.returns-then-low-x
unfolding in_range
returns-then-low-x c =
    simp c.if-low-x.true

pub returns-else-low-x : goal.returns-else-low-x
unfolding in_range
returns-else-low-x c =
    simp c.if-low-x.false
