use borrow.Author.Tests.{lt-ltb, le-ltb, eq-eqb, ne_eqb}
use Rattle.plotter_registers.specs.Plotter as Plotter
use Rattle.plotter_registers.proofs.Registers.judged.Goals as goal

pub returns-then-at-eq1 : goal.returns-then-at-eq1
unfolding Plotter.judged
returns-then-at-eq1 c =
    simp (eq-eqb _ _ c.if-at-eq1.true)

pub returns-then-at-gt6 : goal.returns-then-at-gt6
unfolding Plotter.judged
returns-then-at-gt6 c =
    simp (ne_eqb _ _ c.if-at-eq1.false, lt-ltb _ _ c.if-at-gt6.true)

pub returns-then-at-ne0 : goal.returns-then-at-ne0
unfolding Plotter.judged
returns-then-at-ne0 c =
    simp (ne_eqb _ _ c.if-at-eq1.false, le-ltb _ _ c.if-at-gt6.false, ne_eqb _ _ c.if-at-ne0.true)

pub returns-then-value-eq0 : goal.returns-then-value-eq0
unfolding Plotter.judged
returns-then-value-eq0 c =
    simp (ne_eqb _ _ c.if-at-eq1.false, le-ltb _ _ c.if-at-gt6.false, eq-eqb _ _ c.if-at-ne0.false, eq-eqb _ _ c.if-value-eq0.true)

pub returns-then-value-gt4 : goal.returns-then-value-gt4
unfolding Plotter.judged
returns-then-value-gt4 c =
    simp (ne_eqb _ _ c.if-at-eq1.false, le-ltb _ _ c.if-at-gt6.false, eq-eqb _ _ c.if-at-ne0.false, ne_eqb _ _ c.if-value-eq0.false, lt-ltb _ _ c.if-value-gt4.true)

pub returns-then-busy : goal.returns-then-busy
unfolding Plotter.judged
returns-then-busy c =
    simp (ne_eqb _ _ c.if-at-eq1.false, le-ltb _ _ c.if-at-gt6.false, eq-eqb _ _ c.if-at-ne0.false, ne_eqb _ _ c.if-value-eq0.false, le-ltb _ _ c.if-value-gt4.false, ← c.busy.ensures, c.if-busy.true)

pub returns : goal.returns
unfolding Plotter.judged
returns c =
    simp (ne_eqb _ _ c.if-at-eq1.false, le-ltb _ _ c.if-at-gt6.false, eq-eqb _ _ c.if-at-ne0.false, ne_eqb _ _ c.if-value-eq0.false, le-ltb _ _ c.if-value-gt4.false, ← c.busy.ensures, c.if-busy.false)
