use Rattle.std.proofs.lemmas.Result.{err_from_is_err_and}
use Rattle.tree_sight.specs.Sights.{by_distance}
use Rattle.tree_sight.proofs.Seeing.{judged-visible, judged-hidden}
use Rattle.tree_sight.proofs.judged.Goals as goal

pub returns-then-b-distance : goal.returns-then-b-distance
returns-then-b-distance c =
    judged-visible _ _ _ c.in_ok-b.was c.if-b-distance.true

pub returns-in_err-b : goal.returns-in_err-b
unfolding by_distance
returns-in_err-b c =
    let p = err_from_is_err_and c.from_residual.result c.from_residual.ensures.1 in
    rw (c.in_err-b.was, p.1, p.2)

pub returns : goal.returns
returns c =
    judged-hidden _ _ _ c.in_ok-b.was c.if-b-distance.false
