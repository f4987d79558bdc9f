use Rattle.host_account.proofs.AccountLaws.{fates-so}
use Rattle.host_account.proofs.larnt_fates.Goals as goal

pub returns : goal.returns
returns c =
    fates-so c.view_from.ensures c.fates-b.ensures c.answer_number.ensures
