use Rattle.plotter_pens.specs.Pens.{paths_finite}
use borrow.Author.Tests.{eq-eqb, ne_eqb}
use Rattle.plotter_pens.proofs.paths_finite.Goals as goal

pub returns-then-starts-eq0 : goal.returns-then-starts-eq0
unfolding paths_finite
returns-then-starts-eq0 c =
    simp (eq-eqb _ _ c.if-starts-eq0.true)

pub returns : goal.returns
unfolding paths_finite
returns c =
    simp (ne_eqb _ _ c.if-starts-eq0.false, ← c.all_finite.ensures)
