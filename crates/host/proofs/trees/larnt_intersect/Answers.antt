use Rattle.host.proofs.TreeCalls.{intersect-so, best-told, refused-told}
use lib.Ieee.{of_bits}
use Rattle.host.proofs.trees.larnt_intersect.Goals as goal

pub returns-in-Ok : goal.returns-in-Ok
returns-in-Ok c =
    best-told (intersect-so _ _ _ _ c.intersect-f.ensures c.ray_from.ensures) c.in-Ok.is

pub returns-in-Err : goal.returns-in-Err
unfolding of_bits
returns-in-Err c =
    refused-told (intersect-so _ _ _ _ c.intersect-f.ensures c.ray_from.ensures) c.in-Err.is c.number.ensures
