use native.Mathlib.Omega.{arith}
use Rattle.test_yard.proofs.Texts.{short, too_many, so-many}
use Rattle.test_yard.proofs.count.Goals as goal

pub returns-then-s-lt16 : goal.returns-then-s-lt16
returns-then-s-lt16 c =
    (short c.args.s.now c.if-s-lt16.true, omega arith)

pub returns-then-n-s : goal.returns-then-n-s
returns-then-n-s c =
    let args = c.args in (too_many args.s.now _ c.word-n.ensures (omega (arith, c.if-s-lt16.false)) c.if-n-s.true, omega arith)

pub returns : goal.returns
returns c =
    let args = c.args in (so-many args.s.now _ c.word-n.ensures (omega (arith, c.if-s-lt16.false)) c.if-n-s.false, omega (arith, c.if-n-s.false, c.if-s-lt16.false))
