use Rattle.host_merge.proofs.MergeLaws.{merge-told}
use Rattle.host_merge.proofs.larnt_merge.Goals as goal

pub returns : goal.returns
returns c =
    merge-told _ _ _ _ _ c.merge-r.ensures c.entries_told.ensures c.points_told.ensures c.paths_told.ensures c.answer_number.ensures
