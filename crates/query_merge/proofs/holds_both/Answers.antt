use Rattle.query_merge.proofs.Answers.{both-none, both_is}
use Rattle.query_merge.proofs.holds_both.Goals as goal

pub returns-then-room-a : goal.returns-then-room-a
returns-then-room-a c =
    both-none _ _ _ c.if-room-a.true

pub returns : goal.returns
returns c =
    both_is _ _ _ c.if-room-a.false
