use Rattle.host_merge.specs.MergeCalls.{merged_paths}
use Rattle.host_merge.proofs.paths_told.Goals as goal

pub returns-in-Ok : goal.returns-in-Ok
unfolding merged_paths
returns-in-Ok c =
    rw c.in-Ok.is

pub returns-in-Err : goal.returns-in-Err
unfolding merged_paths
returns-in-Err c =
    rw c.in-Err.is
