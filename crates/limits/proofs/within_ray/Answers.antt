use Rattle.limits.specs.Limits.{within_ray}
use Rattle.limits.proofs.within_ray.Goals as goal

pub returns-then-within_point : goal.returns-then-within_point
unfolding within_ray
returns-then-within_point c =
    simp (← c.within_point.ensures, c.if-within_point.true, ← c.within_point-then-within_point.ensures)

pub returns : goal.returns
unfolding within_ray
returns c =
    simp (← c.within_point.ensures, c.if-within_point.false)
