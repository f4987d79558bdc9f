use Rattle.query_cover.proofs.Answers.{past-refused, past_is}
use Rattle.query_cover.proofs.sight.Goals as goal

pub returns-then-not-within_point : goal.returns-then-not-within_point
returns-then-not-within_point c =
    past-refused _ _ _ c.within_point.ensures c.if-not-within_point.true

pub returns : goal.returns
returns c =
    past_is _ _ _ c.within_point.ensures c.if-not-within_point.false c.covered.ensures
