use Rattle.std.proofs.lemmas.Result.{err_from_is_err_and}
use Rattle.query_scene.proofs.Answers.{intersect-refused, ray-refused, intersect-is}
use Rattle.check_scene.proofs.Accepted.{left_is}
use Rattle.floats.specs.Arith.{zero_f}
use mathlib.Core.Path.{sym, ◌∙◌}
use Rattle.query_scene.proofs.intersect.Goals as goal

pub returns-then-not-within_ray : goal.returns-then-not-within_ray
returns-then-not-within_ray c =
    ray-refused _ _ (sym c.check.ensures.verdict ∙ c.in_ok-check.was) _ _ _ _ c.within_ray.ensures c.if-not-within_ray.true

pub returns-in_err-check : goal.returns-in_err-check
returns-in_err-check c =
    let p = err_from_is_err_and c.from_residual.result c.from_residual.ensures.1 in rw (p.1, p.2) (intersect-refused _ _ (sym c.check.ensures.verdict ∙ c.in_err-check.was) _ _ _ _)

pub returns : goal.returns
returns c =
    intersect-is _ _ (sym c.check.ensures.verdict ∙ c.in_ok-check.was) _ _ (left_is zero_f _ c.in_ok-check.was _ _ c.check.ensures.inverses_are) _ _ _ _ c.within_ray.ensures c.if-not-within_ray.false c.intersect.ensures
