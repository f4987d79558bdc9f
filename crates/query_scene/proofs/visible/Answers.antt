use Rattle.std.proofs.lemmas.Result.{err_from_is_err_and}
use Rattle.query_scene.proofs.Answers.{visible-refused, eye-refused, point-refused, visible-is}
use Rattle.check_scene.proofs.Accepted.{left_is}
use Rattle.floats.specs.Arith.{zero_f}
use mathlib.Core.Path.{sym, ◌∙◌}
use Rattle.query_scene.proofs.visible.Goals as goal

pub returns-then-not-within_point : goal.returns-then-not-within_point
returns-then-not-within_point c =
    eye-refused _ _ (sym c.check.ensures.verdict ∙ c.in_ok-check.was) _ _ _ _ _ c.within_point.ensures c.if-not-within_point.true

pub returns-then-not-within_point-2 : goal.returns-then-not-within_point-2
returns-then-not-within_point-2 c =
    point-refused _ _ (sym c.check.ensures.verdict ∙ c.in_ok-check.was) _ _ _ _ _ c.within_point.ensures c.if-not-within_point.false c.within_point-2.ensures c.if-not-within_point-2.true

pub returns-in_err-check : goal.returns-in_err-check
returns-in_err-check c =
    let p = err_from_is_err_and c.from_residual.result c.from_residual.ensures.1 in rw (p.1, p.2) (visible-refused _ _ (sym c.check.ensures.verdict ∙ c.in_err-check.was) _ _ _ _ _)

pub returns : goal.returns
returns c =
    visible-is _ _ (sym c.check.ensures.verdict ∙ c.in_ok-check.was) _ _ (left_is zero_f _ c.in_ok-check.was _ _ c.check.ensures.inverses_are) _ _ _ _ _ c.within_point.ensures c.if-not-within_point.false c.within_point-2.ensures c.if-not-within_point-2.false c.visible.ensures
