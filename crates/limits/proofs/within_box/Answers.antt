use Rattle.limits.specs.Limits.{within_box}
use Rattle.limits.proofs.within_box.Goals as goal

pub returns-then-within_point : goal.returns-then-within_point
unfolding within_box
returns-then-within_point c =
    simp (← c.within_point.ensures, c.if-within_point.true, ← c.within_point-then-within_point.ensures)

pub returns : goal.returns
unfolding within_box
returns c =
    simp (← c.within_point.ensures, c.if-within_point.false)
