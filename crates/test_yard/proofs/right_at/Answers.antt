use Rattle.test_yard.proofs.Texts.{first-falls, second-falls, over, between}
use Rattle.test_yard.proofs.right_at.Goals as goal

pub returns-then-a-b : goal.returns-then-a-b
returns-then-a-b c =
    let args = c.args in first-falls args.s.now args.i _ _ _ c.word-a.ensures c.word-b.ensures c.word-c.ensures c.if-a-b.true

pub returns-then-b-c : goal.returns-then-b-c
returns-then-b-c c =
    let args = c.args in second-falls args.s.now args.i _ _ _ c.word-a.ensures c.word-b.ensures c.word-c.ensures c.if-a-b.false c.if-b-c.true

pub returns-then-c-s : goal.returns-then-c-s
returns-then-c-s c =
    let args = c.args in over args.s.now args.i _ _ _ c.word-a.ensures c.word-b.ensures c.word-c.ensures c.if-a-b.false c.if-b-c.false c.if-c-s.true

pub returns : goal.returns
returns c =
    let args = c.args in between args.s.now args.i _ _ _ c.word-a.ensures c.word-b.ensures c.word-c.ensures c.if-a-b.false c.if-b-c.false c.if-c-s.false c.reply_right.ensures
