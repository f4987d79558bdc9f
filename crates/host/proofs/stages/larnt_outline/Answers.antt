use Rattle.host.proofs.StageCalls.{finished-so, outline-so}
use Rattle.scene.specs.Entries.{simple_of}
use mathlib.Core.Path.{ap, ◌∙◌}
use Rattle.host.proofs.stages.larnt_outline.Goals as goal

pub returns : goal.returns
returns c =
    finished-so _ _ _
    (outline-so _ _ _ _ _ (c.simple_of.ensures ∙ ap (simple_of _) c.sixteen.ensures) c.point.ensures c.view_from.ensures c.outline_alone-c.ensures)
    c.answer_number.ensures
    c.point_count.ensures
    c.path_count.ensures
