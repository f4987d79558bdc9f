use Rattle.test_queries.specs.Questions.{name_code}
use Rattle.test_queries.proofs.name_code.Goals as goal

pub returns-in-Ok-None : goal.returns-in-Ok-None
unfolding name_code
returns-in-Ok-None c =
    let a = c.in-Ok-None in rw (a.is, (rw a.is at a.field-0-is))

pub returns-in-Ok-Some : goal.returns-in-Ok-Some
unfolding name_code
returns-in-Ok-Some c =
    let a = c.in-Ok-Some in rw (a.is, (rw a.is at a.field-0-is))

pub returns-in-Err : goal.returns-in-Err
unfolding name_code
returns-in-Err c =
    rw c.in-Err.is c.number.ensures
