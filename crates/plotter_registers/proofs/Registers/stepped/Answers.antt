use borrow.Author.Tests.{eq-eqb, ne_eqb}
use Rattle.plotter_registers.specs.Plotter as Plotter
use Rattle.plotter_registers.proofs.Registers.stepped.Goals as goal

pub returns-then-not-busy : goal.returns-then-not-busy
unfolding Plotter.step_of
returns-then-not-busy c =
    simp (← c.busy.ensures, c.if-not-busy.true)

pub returns-then-pen-to : goal.returns-then-pen-to
unfolding Plotter.step_of Plotter.moved
returns-then-pen-to c =
    simp (← c.busy.ensures, c.if-not-busy.false, ← c.closer-pen.ensures, ne_eqb c.closer-pen.result.x _ c.if-pen-to.true)

pub returns-then-pen-to-2 : goal.returns-then-pen-to-2
unfolding Plotter.step_of Plotter.moved
returns-then-pen-to-2 c =
    simp (← c.busy.ensures, c.if-not-busy.false, ← c.closer-pen.ensures, eq-eqb c.closer-pen.result.x _ c.if-pen-to.false, ne_eqb c.closer-pen.result.y _ c.if-pen-to-2.true)

pub returns : goal.returns
unfolding Plotter.step_of Plotter.moved
returns c =
    simp (← c.busy.ensures, c.if-not-busy.false, ← c.closer-pen.ensures, eq-eqb c.closer-pen.result.x _ c.if-pen-to.false, eq-eqb c.closer-pen.result.y _ c.if-pen-to-2.false, c.arrived.ensures)
