use Rattle.host.specs.TreeCalls.{in_sight}
use Rattle.host.proofs.trees.in_sight.Goals as goal

pub returns-in-Ok-Visible : goal.returns-in-Ok-Visible
unfolding in_sight
returns-in-Ok-Visible c =
    let a = c.in-Ok-Visible in rw (a.is, (rw a.is at a.field-0-is))

pub returns-in-Ok-Hidden : goal.returns-in-Ok-Hidden
unfolding in_sight
returns-in-Ok-Hidden c =
    let a = c.in-Ok-Hidden in rw (a.is, (rw a.is at a.field-0-is))

pub returns-in-Err : goal.returns-in-Err
unfolding in_sight
returns-in-Err c =
    rw c.in-Err.is
