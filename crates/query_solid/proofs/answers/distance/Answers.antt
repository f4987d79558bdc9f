use Rattle.query_solid.specs.Answers.{distance}
use lib.Ieee.{of_bits}
use Rattle.query_solid.proofs.answers.distance.Goals as goal

pub returns-in-Ok : goal.returns-in-Ok
unfolding distance of_bits
returns-in-Ok c =
    rw c.in-Ok.is

pub returns-in-Err : goal.returns-in-Err
unfolding distance of_bits
returns-in-Err c =
    rw c.in-Err.is
