use Rattle.test_leaves.specs.Answers.{simple_answer}
use Rattle.test_leaves.proofs.simple_answer.Goals as goal

pub returns-in-Some : goal.returns-in-Some
unfolding simple_answer
returns-in-Some c =
    rw c.in-Some.is

pub returns-in-None : goal.returns-in-None
unfolding simple_answer
returns-in-None c =
    rw c.in-None.is
