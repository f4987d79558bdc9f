use Rattle.geometry.specs.Boxes.{contains}
use Rattle.geometry.proofs.bounding_box.BBox.contains.Goals as goal

pub returns-then-between-2 : goal.returns-then-between-2
unfolding contains
returns-then-between-2 c =
    simp (← c.between.ensures, c.if-between.true, ← c.between-then-between.ensures, c.if-between-2.true, ← c.between-then-between-2.ensures)

pub returns-else-between-2 : goal.returns-else-between-2
unfolding contains
returns-else-between-2 c =
    simp (← c.between.ensures, c.if-between.true, ← c.between-then-between.ensures, c.if-between-2.false)

pub returns-else-between : goal.returns-else-between
unfolding contains
returns-else-between c =
    simp (← c.between.ensures, c.if-between.false)
