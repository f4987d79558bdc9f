use mathlib.Core.Path.{refl}
use Rattle.plotter_registers.specs.Plotter as Plotter
use Rattle.plotter_registers.proofs.Registers.busy.Goals as goal

pub returns : goal.returns
unfolding Plotter.busy
returns c =
    refl
