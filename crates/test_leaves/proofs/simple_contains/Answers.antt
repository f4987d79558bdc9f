use Rattle.test_leaves.specs.Answers.{told_contains}
use Rattle.test_leaves.proofs.simple_contains.Goals as goal

pub returns-in-Some : goal.returns-in-Some
unfolding told_contains
returns-in-Some c =
    rw c.in-Some.is c.contains.ensures

pub returns-in-None : goal.returns-in-None
unfolding told_contains
returns-in-None c =
    rw c.in-None.is
