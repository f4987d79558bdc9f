use Rattle.host.proofs.TreeCalls.{occluder-so, clear_told, hidden-told, unnamed_told}
use Rattle.std.proofs.Common.{ap, ◌∙◌, Ok}
use Rattle.host.proofs.trees.larnt_occluder.Goals as goal

pub returns-in-Ok-None : goal.returns-in-Ok-None
returns-in-Ok-None c =
    let a = c.in-Ok-None in clear_told (occluder-so _ _ _ _ c.occluder-o.ensures c.point.ensures c.point-2.ensures) (a.is ∙ ap Ok (rw a.is at a.field-0-is))

pub returns-in-Ok-Some : goal.returns-in-Ok-Some
returns-in-Ok-Some c =
    let a = c.in-Ok-Some in hidden-told (occluder-so _ _ _ _ c.occluder-o.ensures c.point.ensures c.point-2.ensures) (a.is ∙ ap Ok (rw a.is at a.field-0-is))

pub returns-in-Err : goal.returns-in-Err
returns-in-Err c =
    unnamed_told (occluder-so _ _ _ _ c.occluder-o.ensures c.point.ensures c.point-2.ensures) c.in-Err.is c.number.ensures
