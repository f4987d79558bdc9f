use Rattle.plotter_pens.specs.Pens.{pick_number}
use Rattle.plotter_pens.proofs.pick_number.Goals as goal

pub returns-in-Ok-Some : goal.returns-in-Ok-Some
unfolding pick_number
returns-in-Ok-Some c =
    let a = c.in-Ok-Some in rw (a.is, (rw a.is at a.field-0-is))

pub returns-in-Ok-None : goal.returns-in-Ok-None
unfolding pick_number
returns-in-Ok-None c =
    let a = c.in-Ok-None in rw (a.is, (rw a.is at a.field-0-is))

pub returns-in-Err : goal.returns-in-Err
unfolding pick_number
returns-in-Err c =
    rw c.in-Err.is c.number.ensures
