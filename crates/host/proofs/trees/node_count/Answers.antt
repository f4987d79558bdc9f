use Rattle.host.specs.TreeCalls.{node_count}
use Rattle.host.proofs.trees.node_count.Goals as goal

pub returns-in-Ok : goal.returns-in-Ok
unfolding node_count
returns-in-Ok c =
    rw c.in-Ok.is

pub returns-in-Err : goal.returns-in-Err
unfolding node_count
returns-in-Err c =
    rw c.in-Err.is
