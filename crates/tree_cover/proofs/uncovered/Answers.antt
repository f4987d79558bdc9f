use Rattle.std.proofs.lemmas.Result.{err_from_is_err_and}
use Rattle.tree_cover.specs.Seeking.{by_sought}
use Rattle.tree_cover.proofs.uncovered.Goals as goal

pub returns-in-Open : goal.returns-in-Open
unfolding by_sought
returns-in-Open c =
    rw (c.in_ok-s.was, c.in-Open.is)

pub returns-in-Covered : goal.returns-in-Covered
unfolding by_sought
returns-in-Covered c =
    rw (c.in_ok-s.was, c.in-Covered.is)

pub returns-in_err-s : goal.returns-in_err-s
unfolding by_sought
returns-in_err-s c =
    let p = err_from_is_err_and c.from_residual.result c.from_residual.ensures.1 in
    rw (c.in_err-s.was, p.1, p.2)
