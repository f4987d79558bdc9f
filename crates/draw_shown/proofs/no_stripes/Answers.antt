use borrow.Author.Tests.{eq-eqb, ne_eqb}
use Rattle.draw_shown.specs.Shown.{no_stripes}
use Rattle.draw_shown.proofs.no_stripes.Goals as goal

pub returns-then-count-eq0 : goal.returns-then-count-eq0
unfolding no_stripes
returns-then-count-eq0 c =
    rw (eq-eqb _ 0 c.if-count-eq0.true)

pub returns : goal.returns
unfolding no_stripes
returns c =
    rw (ne_eqb _ 0 c.if-count-eq0.false)
