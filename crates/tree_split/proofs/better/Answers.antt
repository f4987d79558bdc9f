use Rattle.tree_split.proofs.better.Goals as goal

pub returns-then-cost-best : goal.returns-then-cost-best
returns-then-cost-best c =
    rw c.if-cost-best.true

pub returns : goal.returns
returns c =
    rw c.if-cost-best.false
