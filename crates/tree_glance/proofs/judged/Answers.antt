use Rattle.tree_glance.specs.Glances.{judged_of}
use Rattle.tree_glance.proofs.judged.Goals as goal

pub returns-then-h-distance : goal.returns-then-h-distance
unfolding judged_of
returns-then-h-distance c =
    rw (c.in-Ok.is, c.if-h-distance.true)

pub returns-in-Err : goal.returns-in-Err
unfolding judged_of
returns-in-Err c =
    rw c.in-Err.is

pub returns-else-h-distance : goal.returns-else-h-distance
unfolding judged_of
returns-else-h-distance c =
    rw (c.in-Ok.is, c.if-h-distance.false)
