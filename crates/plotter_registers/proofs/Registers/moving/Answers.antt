use mathlib.Core.Path.{refl}
use Rattle.plotter_registers.specs.Plotter as Plotter
use Rattle.plotter_registers.proofs.Registers.moving.Goals as goal

pub returns : goal.returns
unfolding Plotter.moving
returns c =
    refl
