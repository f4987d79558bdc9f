use Rattle.test_queries.specs.Questions.{sight_code}
use Rattle.test_queries.proofs.sight_code.Goals as goal

pub returns-in-Ok-Hidden : goal.returns-in-Ok-Hidden
unfolding sight_code
returns-in-Ok-Hidden c =
    let a = c.in-Ok-Hidden in rw (a.is, (rw a.is at a.field-0-is))

pub returns-in-Ok-Visible : goal.returns-in-Ok-Visible
unfolding sight_code
returns-in-Ok-Visible c =
    let a = c.in-Ok-Visible in rw (a.is, (rw a.is at a.field-0-is))

pub returns-in-Err : goal.returns-in-Err
unfolding sight_code
returns-in-Err c =
    rw c.in-Err.is c.number.ensures
