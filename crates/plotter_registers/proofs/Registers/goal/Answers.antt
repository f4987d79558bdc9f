use Rattle.plotter_registers.specs.Plotter as Plotter
use Rattle.plotter_registers.proofs.Registers.goal.Goals as goal

pub returns : goal.returns
unfolding Plotter.goal
returns c =
    cc
