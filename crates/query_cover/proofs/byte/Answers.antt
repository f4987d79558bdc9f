use native.Mathlib.Omega.{arith}
use Rattle.query_cover.proofs.Answers.{byte_fits}
use Rattle.query_cover.specs.Covered.{byte_of}
use Rattle.query_cover.proofs.byte.Goals as goal

pub overflow_cast-result : goal.overflow_cast-result
overflow_cast-result c =
    omega (arith, byte_fits _ _ c.number.ensures)

pub returns-in-Ok-Visible : goal.returns-in-Ok-Visible
unfolding byte_of
returns-in-Ok-Visible c =
    let a = c.in-Ok-Visible in rw (a.is, rw a.is at a.field-0-is)

pub returns-in-Ok-Hidden : goal.returns-in-Ok-Hidden
unfolding byte_of
returns-in-Ok-Hidden c =
    let a = c.in-Ok-Hidden in rw (a.is, rw a.is at a.field-0-is)

pub returns-in-Err : goal.returns-in-Err
unfolding byte_of
returns-in-Err c =
    rw c.in-Err.is c.number.ensures
