use Rattle.std.proofs.lemmas.Result.{err_from_is_err_and}
use Rattle.tree_walk.specs.Walks.{tried}
use Rattle.tree_walk.proofs.tried.Goals as goal

pub returns : goal.returns
unfolding tried
returns c =
    rw (c.nearer.ensures, c.in_ok-h.was)

pub returns-in_err-h : goal.returns-in_err-h
unfolding tried
returns-in_err-h c =
    let p = err_from_is_err_and c.from_residual.result c.from_residual.ensures.1 in rw (p.1, p.2) (rw c.in_err-h.was)
