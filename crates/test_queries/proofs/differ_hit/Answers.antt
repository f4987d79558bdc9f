use Rattle.test_queries.proofs.Counts.{hit-alike, hit-apart}
use native.Mathlib.Omega.{arith}
use Rattle.test_queries.proofs.differ_hit.Goals as goal

pub returns-then-g-h : goal.returns-then-g-h
returns-then-g-h c =
    let args = c.args in (hit-alike args.g args.h _ _ _ c.if-g-h.true c.flag.ensures c.flag-then-g-h.ensures c.miss.ensures.0, c.miss.ensures.1)

pub returns : goal.returns
returns c =
    (hit-apart c.args.g c.args.h c.if-g-h.false, omega arith)
