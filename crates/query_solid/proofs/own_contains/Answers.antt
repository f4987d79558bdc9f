use Rattle.std.proofs.lemmas.Result.{err_from_is_err_and}
use Rattle.query_solid.proofs.Own.{contains-is, contains-refused}
use Rattle.query_solid.proofs.own_contains.Goals as goal

pub returns-in_err-check : goal.returns-in_err-check
returns-in_err-check c =
    let p = err_from_is_err_and c.from_residual.result c.from_residual.ensures.1 in rw (p.1, p.2) (contains-refused _ c.check.ensures.verdict _ c.in_err-check.was _ _ _)

pub returns : goal.returns
returns c =
    contains-is _ c.check.ensures.verdict _ c.in_ok-check.was _ _ c.check.ensures.inverses_are _ _ _ c.entry_contains-inside.ensures
