use Rattle.test_leaves.specs.Answers.{simple_box}
use Rattle.test_leaves.proofs.simple_box.Goals as goal

pub returns-in-Some : goal.returns-in-Some
unfolding simple_box
returns-in-Some c =
    rw c.in-Some.is c.bounding_box.ensures

pub returns-in-None : goal.returns-in-None
unfolding simple_box
returns-in-None c =
    rw c.in-None.is
