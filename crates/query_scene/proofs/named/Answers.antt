use Rattle.std.proofs.lemmas.Result.{err_from_is_err_and}
use Rattle.query_scene.specs.Queries.{hider_by}
use Rattle.query_scene.proofs.Names.{named-clear, named-hidden}
use Rattle.query_scene.proofs.named.Goals as goal

pub returns-then-b-distance : goal.returns-then-b-distance
returns-then-b-distance c =
    named-clear _ _ _ c.in_ok-b.was c.if-b-distance.true

pub returns-in_err-b : goal.returns-in_err-b
unfolding hider_by
returns-in_err-b c =
    let p = err_from_is_err_and c.from_residual.result c.from_residual.ensures.1 in rw (p.1, p.2) (rw c.in_err-b.was)

pub returns : goal.returns
returns c =
    named-hidden _ _ _ c.in_ok-b.was c.if-b-distance.false
