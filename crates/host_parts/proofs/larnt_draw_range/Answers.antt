use Rattle.host_parts.proofs.PartLaws.{range-so}
use Rattle.host_parts.proofs.larnt_draw_range.Goals as goal

pub returns-clause-paths_told : goal.returns-clause-paths_told
returns-clause-paths_told c =
    range-so _ _ _ c.args.first c.args.many _ _ c.view_from.ensures c.draw_range-c.ensures.finished c.answer_number.ensures c.point_count.ensures c.path_count.ensures
