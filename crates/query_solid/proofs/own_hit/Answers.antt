use Rattle.std.proofs.lemmas.Result.{err_from_is_err_and}
use Rattle.query_solid.proofs.Own.{hit-is, ray-refused, hit-refused}
use Rattle.query_solid.proofs.own_hit.Goals as goal

pub returns-then-not-within_ray : goal.returns-then-not-within_ray
returns-then-not-within_ray c =
    ray-refused _ c.check.ensures.verdict _ c.in_ok-check.was _ _ c.within_ray.ensures c.if-not-within_ray.true

pub returns-in_err-check : goal.returns-in_err-check
returns-in_err-check c =
    let p = err_from_is_err_and c.from_residual.result c.from_residual.ensures.1 in rw (p.1, p.2) (hit-refused _ c.check.ensures.verdict _ c.in_err-check.was _ _)

pub returns : goal.returns
returns c =
    hit-is _ c.check.ensures.verdict _ c.in_ok-check.was _ _ c.check.ensures.inverses_are _ _ c.within_ray.ensures c.if-not-within_ray.false c.entry_hit.ensures
