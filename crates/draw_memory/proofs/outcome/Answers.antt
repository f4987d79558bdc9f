use Rattle.draw_memory.specs.Memory.{outcome_of}
use Rattle.draw_memory.proofs.outcome.Goals as goal

pub returns-in-Ok-Some : goal.returns-in-Ok-Some
unfolding outcome_of
returns-in-Ok-Some c =
    let a = c.in-Ok-Some in rw (a.is, rw a.is at a.field-0-is)

pub returns-in-Ok-None : goal.returns-in-Ok-None
unfolding outcome_of
returns-in-Ok-None c =
    let a = c.in-Ok-None in rw (a.is, rw a.is at a.field-0-is)

pub returns-in-Err : goal.returns-in-Err
unfolding outcome_of
returns-in-Err c =
    rw c.in-Err.is
