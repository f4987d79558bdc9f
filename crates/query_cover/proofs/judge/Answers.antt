use Rattle.std.proofs.lemmas.Result.{err_from_is_err_and}
use Rattle.query_cover.proofs.Answers.{judge-lengths, judge-refused, judge-view, judge-room, judge-answered}
use Rattle.query_cover.proofs.judge.Goals as goal

pub returns-then-n-size : goal.returns-then-n-size
returns-then-n-size c =
    judge-lengths _ _ _ _ c.if-n-size.true

pub returns-then-not-ok : goal.returns-then-not-ok
returns-then-not-ok c =
    judge-view _ _ _ _ c.if-n-size.false _ c.in_ok-v.was c.if-not-ok.true

pub returns-then-room-n : goal.returns-then-room-n
returns-then-room-n c =
    judge-room _ _ _ _ c.if-n-size.false _ c.in_ok-v.was c.if-not-ok.false c.if-room-n.true

pub returns-in_err-v : goal.returns-in_err-v
returns-in_err-v c =
    let p = err_from_is_err_and c.from_residual.result c.from_residual.ensures.1 in rw (p.1, p.2) (judge-refused _ _ _ _ c.if-n-size.false _ c.in_err-v.was)

pub returns : goal.returns
returns c =
    judge-answered _ _ _ _ c.if-n-size.false _ c.in_ok-v.was c.if-not-ok.false c.if-room-n.false
