use Rattle.sqrt.proofs.BySquares.{not-at-most, no-root, no_bound}
use Rattle.sqrt.proofs.root_above.Goals as goal

pub returns-then-l : goal.returns-then-l
returns-then-l c =
    not-at-most _ _ c.if-x.true c.if-l.true c.root_at_most.ensures

pub returns-else-l : goal.returns-else-l
returns-else-l c =
    no_bound _ _ c.if-l.false

pub returns-else-x : goal.returns-else-x
returns-else-x c =
    no-root _ _ c.if-x.false
