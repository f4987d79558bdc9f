use Rattle.host.specs.StageCalls.{points_told}
use Rattle.host.proofs.stages.point_count.Goals as goal

pub returns-in-Ok : goal.returns-in-Ok
unfolding points_told
returns-in-Ok c =
    rw c.in-Ok.is

pub returns-in-Err : goal.returns-in-Err
unfolding points_told
returns-in-Err c =
    rw c.in-Err.is
