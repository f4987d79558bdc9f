use Rattle.host.proofs.CoverCalls.{covered-so}
use Rattle.host.proofs.covers.larnt_covered.Goals as goal

pub returns : goal.returns
returns c =
    covered-so _ _ _ _ c.covered-s.ensures c.point.ensures c.point-2.ensures c.answer_number.ensures c.in_sight.ensures
