use Rattle.paths.proofs.Verbs.{close-none, close-gone, close-stays}
use native.Mathlib.Omega.{arith}
use Rattle.paths.proofs.close.Goals as goal

pub returns-then-m-eq0 : goal.returns-then-m-eq0
returns-then-m-eq0 c =
    (close-none c.args.starts.now c.args.m c.args.n c.requires c.if-m-eq0.true, omega arith)

pub returns-then-starts-at : goal.returns-then-starts-at
returns-then-starts-at c =
    let args = c.args in let pre = c.requires in (close-gone args.starts.now args.m args.n (pre) c.if-m-eq0.false c.if-starts-at.true, omega arith)

pub returns : goal.returns
returns c =
    let args = c.args in let pre = c.requires in (close-stays args.starts.now args.m args.n (pre) c.if-m-eq0.false c.if-starts-at.false, omega arith)
