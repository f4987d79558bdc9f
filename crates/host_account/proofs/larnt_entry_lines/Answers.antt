use Rattle.std.proofs.Common.{take, drop}
use Rattle.check_parts.specs.Drawn.{drawn}
use Rattle.host_account.proofs.AccountLaws.{lines-so}
use Rattle.host_account.proofs.larnt_entry_lines.Goals as goal

pub returns-clause-paths_told : goal.returns-clause-paths_told
returns-clause-paths_told c =
    let args = c.args in lines-so _ _ (take args.many (drop args.first (drawn args.marks.now))) _ _ c.view_from.ensures c.entry_lines-c.ensures.finished c.answer_number.ensures c.point_count.ensures c.path_count.ensures
