use borrow.Author.Tests.{eq-eqb, ne_eqb}
use Rattle.plotter_registers.specs.Plotter as Plotter
use Rattle.plotter_registers.proofs.Registers.stored.Goals as goal

pub returns-then-at-eq0 : goal.returns-then-at-eq0
unfolding Plotter.stored
returns-then-at-eq0 c =
    simp (eq-eqb _ _ c.if-at-eq0.true, ← c.obeyed-next.ensures)

pub returns-then-at-eq6 : goal.returns-then-at-eq6
unfolding Plotter.stored
returns-then-at-eq6 c =
    simp c.if-at-eq6.true

pub returns : goal.returns
unfolding Plotter.stored
returns c =
    simp (ne_eqb _ _ c.if-at-eq0.false, ne_eqb _ _ c.if-at-eq6.false)
