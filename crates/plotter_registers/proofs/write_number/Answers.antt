use Rattle.plotter_registers.specs.Plotter as Plotter
use Rattle.plotter_registers.proofs.write_number.Goals as goal

pub returns-in-Ok : goal.returns-in-Ok
unfolding Plotter.write_number
returns-in-Ok c =
    rw c.in-Ok.is

pub returns-in-Err-ReadOnly : goal.returns-in-Err-ReadOnly
unfolding Plotter.write_number
returns-in-Err-ReadOnly c =
    let a = c.in-Err-ReadOnly in rw (a.is, (rw a.is at a.field-0-is))

pub returns-in-Err-BadCommand : goal.returns-in-Err-BadCommand
unfolding Plotter.write_number
returns-in-Err-BadCommand c =
    let a = c.in-Err-BadCommand in rw (a.is, (rw a.is at a.field-0-is))
