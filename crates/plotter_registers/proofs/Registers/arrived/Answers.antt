use borrow.Author.Tests.{eq-eqb, ne_eqb}
use Rattle.plotter_registers.specs.Plotter as Plotter
use Rattle.plotter_registers.proofs.Registers.arrived.Goals as goal

pub returns-then-mask-ne0 : goal.returns-then-mask-ne0
unfolding Plotter.arrived
returns-then-mask-ne0 c =
    simp (ne_eqb _ _ c.if-mask-ne0.true)

pub returns : goal.returns
unfolding Plotter.arrived
returns c =
    simp (eq-eqb _ _ c.if-mask-ne0.false)
