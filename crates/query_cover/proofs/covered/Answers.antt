use Rattle.std.proofs.lemmas.Result.{err_from_is_err_and}
use mathlib.Core.Path.{sym, ◌∙◌}
use Rattle.floats.specs.Arith.{zero_f}
use Rattle.check_scene.proofs.Accepted.{left_is}
use Rattle.query_cover.proofs.Answers.{covered-refused, eye-refused, covered-is}
use Rattle.query_cover.proofs.covered.Goals as goal

pub returns-then-not-within_point : goal.returns-then-not-within_point
returns-then-not-within_point c =
    eye-refused _ _ (sym c.check.ensures.verdict ∙ c.in_ok-check.was) _ _ _ _ c.within_point.ensures c.if-not-within_point.true _

pub returns-in_err-check : goal.returns-in_err-check
returns-in_err-check c =
    let p = err_from_is_err_and c.from_residual.result c.from_residual.ensures.1 in rw (p.1, p.2) (covered-refused _ _ (sym c.check.ensures.verdict ∙ c.in_err-check.was) _ _ _ _ _)

pub returns : goal.returns
returns c =
    c.sight.ensures ∙ covered-is _ _ (sym c.check.ensures.verdict ∙ c.in_ok-check.was) _ _ _ _ c.within_point.ensures c.if-not-within_point.false _ _ (left_is zero_f _ c.in_ok-check.was _ _ c.check.ensures.inverses_are) _
