use borrow.Author.Tests.{lt-ltb, le-ltb, eq-eqb, ne_eqb}
use Rattle.plotter_registers.specs.Plotter as Plotter
use Rattle.plotter_registers.proofs.Registers.obeyed.Goals as goal

pub returns-then-command-eq1 : goal.returns-then-command-eq1
unfolding Plotter.obeyed
returns-then-command-eq1 c =
    simp (eq-eqb _ _ c.if-command-eq1.true)

pub returns-then-command-eq2 : goal.returns-then-command-eq2
unfolding Plotter.obeyed
returns-then-command-eq2 c =
    simp (ne_eqb _ _ c.if-command-eq1.false, eq-eqb _ _ c.if-command-eq2.true)

pub returns-then-command-eq3 : goal.returns-then-command-eq3
unfolding Plotter.obeyed
returns-then-command-eq3 c =
    simp (ne_eqb _ _ c.if-command-eq1.false, ne_eqb _ _ c.if-command-eq2.false, eq-eqb _ _ c.if-command-eq3.true, c.moving.ensures)

pub returns-then-to-gt8410 : goal.returns-then-to-gt8410
unfolding Plotter.obeyed
returns-then-to-gt8410 c =
    simp (ne_eqb _ _ c.if-command-eq1.false, ne_eqb _ _ c.if-command-eq2.false, ne_eqb _ _ c.if-command-eq3.false, ← c.goal-to.ensures, lt-ltb _ _ c.if-to-gt8410.true)

pub returns-then-to-gt5940 : goal.returns-then-to-gt5940
unfolding Plotter.obeyed
returns-then-to-gt5940 c =
    simp (ne_eqb _ _ c.if-command-eq1.false, ne_eqb _ _ c.if-command-eq2.false, ne_eqb _ _ c.if-command-eq3.false, ← c.goal-to.ensures, le-ltb _ _ c.if-to-gt8410.false, lt-ltb _ _ c.if-to-gt5940.true)

pub returns : goal.returns
unfolding Plotter.obeyed
returns c =
    simp (ne_eqb _ _ c.if-command-eq1.false, ne_eqb _ _ c.if-command-eq2.false, ne_eqb _ _ c.if-command-eq3.false, ← c.goal-to.ensures, le-ltb _ _ c.if-to-gt8410.false, le-ltb _ _ c.if-to-gt5940.false, c.moving-2.ensures)
