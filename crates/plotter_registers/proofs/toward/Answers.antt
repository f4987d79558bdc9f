use Rattle.plotter_registers.specs.Plotter as Plotter
use borrow.Author.Tests.{lt-ltb, le-ltb}
use Rattle.plotter_registers.proofs.toward.Goals as goal

pub returns-then-at-to : goal.returns-then-at-to
unfolding Plotter.toward
returns-then-at-to c =
    simp (lt-ltb _ _ c.if-at-to.true)

pub returns-then-to-at : goal.returns-then-to-at
unfolding Plotter.toward
returns-then-to-at c =
    simp (le-ltb _ _ c.if-at-to.false, lt-ltb _ _ c.if-to-at.true)

pub returns : goal.returns
unfolding Plotter.toward
returns c =
    simp (le-ltb _ _ c.if-at-to.false, le-ltb _ _ c.if-to-at.false)
