use Rattle.floats.specs.Numbers.{within}
use Rattle.floats.proofs.within.Goals as goal

pub returns-then-x : goal.returns-then-x
unfolding within
returns-then-x c =
    simp c.if-x.true

pub returns-else-x : goal.returns-else-x
unfolding within
returns-else-x c =
    simp c.if-x.false
