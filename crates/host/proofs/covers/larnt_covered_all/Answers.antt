use Rattle.host.proofs.CoverCalls.{all_so}
use Rattle.host.proofs.covers.larnt_covered_all.Goals as goal

pub returns : goal.returns
returns c =
    all_so _ _ _ _ c.covered_all-b.ensures c.point.ensures c.answer_number.ensures
