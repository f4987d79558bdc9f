use Rattle.host_plotter.specs.PenCalls.{path_told}
use Rattle.host_plotter.proofs.pens.path_told.Goals as goal

pub returns-in-Ok-Some-Yard : goal.returns-in-Ok-Some-Yard
unfolding path_told
returns-in-Ok-Some-Yard c =
    let a = c.in-Ok-Some-Yard in let i = rw a.is at a.field-0-is in rw (a.is, i, (rw (a.is, i) at a.field-0-0-is))

pub returns-in-Ok-Some-Lines : goal.returns-in-Ok-Some-Lines
unfolding path_told
returns-in-Ok-Some-Lines c =
    let a = c.in-Ok-Some-Lines in let i = rw a.is at a.field-0-is in rw (a.is, i, (rw (a.is, i) at a.field-0-0-is))

pub returns-in-Ok-None : goal.returns-in-Ok-None
unfolding path_told
returns-in-Ok-None c =
    let a = c.in-Ok-None in rw (a.is, (rw a.is at a.field-0-is))

pub returns-in-Err : goal.returns-in-Err
unfolding path_told
returns-in-Err c =
    rw c.in-Err.is
