use Rattle.query_solid.specs.Answers.{met}
use Rattle.query_solid.proofs.answers.met.Goals as goal

pub returns-in-Ok : goal.returns-in-Ok
unfolding met
returns-in-Ok c =
    rw c.in-Ok.is

pub returns-in-Err : goal.returns-in-Err
unfolding met
returns-in-Err c =
    rw c.in-Err.is
