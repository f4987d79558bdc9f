use Rattle.std.proofs.lemmas.Result.{err_from_is_err_and}
use Rattle.draw_fates.specs.Fates.{by_name}
use Rattle.draw_fates.proofs.by_name.Goals as goal

pub returns-in-None : goal.returns-in-None
unfolding by_name
returns-in-None c =
    rw (c.in_ok-o.was, c.in-None.is)

pub returns-in-Some : goal.returns-in-Some
unfolding by_name
returns-in-Some c =
    rw (c.in_ok-o.was, c.in-Some.is)

pub returns-in_err-o : goal.returns-in_err-o
unfolding by_name
returns-in_err-o c =
    let p = err_from_is_err_and c.from_residual.result c.from_residual.ensures.1 in rw (p.1, p.2) (rw c.in_err-o.was)
