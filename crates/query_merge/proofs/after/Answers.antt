use Rattle.std.proofs.lemmas.Result.{err_from_is_err_and}
use Rattle.query_merge.specs.Merging.{merged_after}
use Rattle.query_merge.proofs.after.Goals as goal

pub returns : goal.returns
unfolding merged_after
returns c =
    rw c.in_ok-v.was

pub returns-in_err-v : goal.returns-in_err-v
unfolding merged_after
returns-in_err-v c =
    let p = err_from_is_err_and c.from_residual.result c.from_residual.ensures.1 in rw (p.1, p.2) (rw c.in_err-v.was)
