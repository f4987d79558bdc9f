use mathlib.Core.Path.{◌∙◌}
use Rattle.scene_shape.specs.Cuts.{tell_of}
use Rattle.scene_shape.proofs.tell_of.Goals as goal

pub returns-in-Intersection : goal.returns-in-Intersection
unfolding tell_of
returns-in-Intersection c =
    rw c.in-Intersection.is

pub returns-in-Difference : goal.returns-in-Difference
unfolding tell_of
returns-in-Difference c =
    rw c.in-Difference.is

pub returns-in-TrueIntersection : goal.returns-in-TrueIntersection
unfolding tell_of
returns-in-TrueIntersection c =
    c.from_first.ensures ∙ rw c.in-TrueIntersection.is

pub returns-in-TrueDifference : goal.returns-in-TrueDifference
unfolding tell_of
returns-in-TrueDifference c =
    c.from_first-in-TrueDifference.ensures ∙ rw c.in-TrueDifference.is
