use Rattle.host.proofs.StageCalls.{finished-so, view-so}
use Rattle.host.proofs.stages.larnt_chop.Goals as goal

pub returns : goal.returns
returns c =
    finished-so _ _ _ (view-so _ _ _ _ _ _ c.view_from.ensures c.chop_adaptive-c.ensures)
    c.answer_number.ensures
    c.point_count.ensures
    c.path_count.ensures
