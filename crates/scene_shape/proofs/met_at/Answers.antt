use Rattle.scene_shape.specs.Meetings.{meeting_of}
use Rattle.scene_shape.proofs.met_at.Goals as goal

pub returns-in-Some-Placed : goal.returns-in-Some-Placed
unfolding meeting_of
returns-in-Some-Placed c =
    let e = rw c.in-Some-Placed.is at c.in-Some-Placed.field-0-is in
    rw (← c.parts_at-e.ensures, c.in-Some-Placed.is, e, ← c.matrix_at.ensures, ← c.mul_ray-q.ensures)

pub returns-in-Some-Cut : goal.returns-in-Some-Cut
unfolding meeting_of
returns-in-Some-Cut c =
    let e = rw c.in-Some-Cut.is at c.in-Some-Cut.field-0-is in
    rw (← c.parts_at-e.ensures, c.in-Some-Cut.is, e)

pub returns-in-None : goal.returns-in-None
unfolding meeting_of
returns-in-None c =
    rw (← c.parts_at-e.ensures, c.in-None.is)
