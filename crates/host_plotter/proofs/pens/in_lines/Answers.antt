use Rattle.host_plotter.specs.PenCalls.{in_lines}
use Rattle.host_plotter.proofs.pens.in_lines.Goals as goal

pub returns-in-Ok-Some-Yard : goal.returns-in-Ok-Some-Yard
unfolding in_lines
returns-in-Ok-Some-Yard c =
    let a = c.in-Ok-Some-Yard in let i = rw a.is at a.field-0-is in rw (a.is, i, (rw (a.is, i) at a.field-0-0-is))

pub returns-in-Ok-Some-Lines : goal.returns-in-Ok-Some-Lines
unfolding in_lines
returns-in-Ok-Some-Lines c =
    let a = c.in-Ok-Some-Lines in let i = rw a.is at a.field-0-is in rw (a.is, i, (rw (a.is, i) at a.field-0-0-is))

pub returns-in-Ok-None : goal.returns-in-Ok-None
unfolding in_lines
returns-in-Ok-None c =
    let a = c.in-Ok-None in rw (a.is, (rw a.is at a.field-0-is))

pub returns-in-Err : goal.returns-in-Err
unfolding in_lines
returns-in-Err c =
    rw c.in-Err.is
