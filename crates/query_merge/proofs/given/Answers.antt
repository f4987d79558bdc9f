use Rattle.query_merge.proofs.Answers.{given-none, given-some}
use native.Mathlib.Omega.{arith}
use Rattle.query_merge.proofs.given.Goals as goal

pub returns-then-starts-eq0 : goal.returns-then-starts-eq0
returns-then-starts-eq0 c =
    record { value = given-none _ _ c.if-starts-eq0.true; upper_bound = omega arith }

pub returns : goal.returns
returns c =
    record { value = given-some _ _ c.if-starts-eq0.false; upper_bound = omega arith }
