use Rattle.host.proofs.StageCalls.{draw-so}
use Rattle.host.proofs.stages.larnt_draw_with.Goals as goal

pub returns-clause-paths_told : goal.returns-clause-paths_told
returns-clause-paths_told c =
    draw-so _ _ _ _ _ c.view_from.ensures c.draw_with-c.ensures.finished c.answer_number.ensures c.point_count.ensures c.path_count.ensures
