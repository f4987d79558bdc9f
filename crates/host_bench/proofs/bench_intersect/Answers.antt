use Rattle.host_bench.proofs.Walks.{walked-so}
use Rattle.host.proofs.TreeCalls.{best-told, refused-told}
use lib.Ieee.{of_bits}
use Rattle.host_bench.proofs.bench_intersect.Goals as goal

pub returns-in-Ok : goal.returns-in-Ok
returns-in-Ok c =
    best-told (walked-so _ _ _ _ _ _ c.intersect-f.ensures c.ray_from.ensures) c.in-Ok.is

pub returns-in-Err : goal.returns-in-Err
unfolding of_bits
returns-in-Err c =
    refused-told (walked-so _ _ _ _ _ _ c.intersect-f.ensures c.ray_from.ensures) c.in-Err.is c.number.ensures
