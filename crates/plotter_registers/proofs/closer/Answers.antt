use Rattle.plotter_registers.specs.Plotter as Plotter
use Rattle.plotter_registers.proofs.closer.Goals as goal

pub returns : goal.returns
unfolding Plotter.closer
returns c =
    cc
