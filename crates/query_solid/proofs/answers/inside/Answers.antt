use Rattle.query_solid.specs.Answers.{inside}
use Rattle.query_solid.proofs.answers.inside.Goals as goal

pub returns-in-Ok : goal.returns-in-Ok
unfolding inside
returns-in-Ok c =
    rw c.in-Ok.is

pub returns-in-Err : goal.returns-in-Err
unfolding inside
returns-in-Err c =
    rw c.in-Err.is
