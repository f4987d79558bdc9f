use Rattle.query_cover.specs.Covered.{if_answered}
use Rattle.query_cover.proofs.answered.Goals as goal

pub returns-in-Ok : goal.returns-in-Ok
unfolding if_answered
returns-in-Ok c =
    rw c.in-Ok.is

pub returns-in-Err : goal.returns-in-Err
unfolding if_answered
returns-in-Err c =
    rw c.in-Err.is
