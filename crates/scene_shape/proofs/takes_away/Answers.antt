use Rattle.scene_shape.specs.Cuts.{takes_away}
use Rattle.scene_shape.proofs.takes_away.Goals as goal

pub returns-in-Intersection : goal.returns-in-Intersection
unfolding takes_away
returns-in-Intersection c =
    rw c.in-Intersection.is

pub returns-in-Difference : goal.returns-in-Difference
unfolding takes_away
returns-in-Difference c =
    rw c.in-Difference.is

pub returns-in-TrueIntersection : goal.returns-in-TrueIntersection
unfolding takes_away
returns-in-TrueIntersection c =
    rw c.in-TrueIntersection.is

pub returns-in-TrueDifference : goal.returns-in-TrueDifference
unfolding takes_away
returns-in-TrueDifference c =
    rw c.in-TrueDifference.is
