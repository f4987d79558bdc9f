use Rattle.test_leaves.specs.Answers.{told_hit}
use Rattle.test_leaves.proofs.simple_hit.Goals as goal

pub returns-in-Some : goal.returns-in-Some
unfolding told_hit
returns-in-Some c =
    rw c.in-Some.is c.intersect.ensures

pub returns-in-None : goal.returns-in-None
unfolding told_hit
returns-in-None c =
    rw c.in-None.is
