use Rattle.query_solid.specs.Answers.{drawn_count}
use Rattle.query_solid.proofs.answers.drawn_count.Goals as goal

pub returns-in-Ok : goal.returns-in-Ok
unfolding drawn_count
returns-in-Ok c =
    rw c.in-Ok.is

pub returns-in-Err : goal.returns-in-Err
unfolding drawn_count
returns-in-Err c =
    rw c.in-Err.is
