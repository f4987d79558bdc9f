use Rattle.host.proofs.StageCalls.{finished-so}
use Rattle.host.proofs.stages.larnt_simplify.Goals as goal

pub returns : goal.returns
returns c =
    finished-so _ _ _ c.simplify-c.ensures.finished c.answer_number.ensures c.point_count.ensures c.path_count.ensures
