use Rattle.host.proofs.TreeCalls.{seen-so}
use Rattle.host.proofs.trees.larnt_visible.Goals as goal

pub returns : goal.returns
returns c =
    seen-so _ _ _ _ c.visible-s.ensures c.point.ensures c.point-2.ensures c.answer_number.ensures c.in_sight.ensures
