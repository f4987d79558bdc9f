use borrow.Author.Tests.{eq-eqb, ne_eqb}
use Rattle.test_queries.proofs.Counts.{nearest-alike, nearest-apart}
use native.Mathlib.Omega.{arith}
use Rattle.test_queries.proofs.differ_nearest.Goals as goal

pub returns-then-a-b : goal.returns-then-a-b
returns-then-a-b c =
    let args = c.args in (nearest-alike args.a args.b _ (eq-eqb _ _ c.if-a-b.true) c.differ_hit.ensures.0, c.differ_hit.ensures.1)

pub returns : goal.returns
returns c =
    (nearest-apart c.args.a c.args.b (ne_eqb _ _ c.if-a-b.false), omega arith)
