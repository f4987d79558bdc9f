use borrow.Author.Tests.{eq-eqb, ne_eqb}
use Rattle.draw_tally.specs.Tallies.{paths_left}
use Rattle.draw_tally.proofs.paths_left.Goals as goal

pub returns-then-from-points : goal.returns-then-from-points
unfolding paths_left
returns-then-from-points c =
    rw (eq-eqb _ _ c.if-from-points.true)

pub returns : goal.returns
unfolding paths_left
returns c =
    rw (ne_eqb _ _ c.if-from-points.false)
