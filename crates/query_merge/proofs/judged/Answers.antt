use Rattle.query_merge.proofs.Answers.{judged-is}
use Rattle.query_merge.proofs.judged.Goals as goal

pub returns : goal.returns
returns c =
    judged-is _ _ _ c.check-v.ensures.verdict c.check-w.ensures.verdict c.given_sizes-a.ensures c.given_sizes-b.ensures c.judge.ensures c.after.ensures c.after-2.ensures
