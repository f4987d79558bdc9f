use Rattle.query_merge.proofs.Answers.{judge-many, judge-short, judge-fits, judge-room}
use Rattle.query_merge.specs.Merging.{both_sizes}
use native.Mathlib.Omega.{arith}
use Rattle.query_merge.proofs.judge.Goals as goal

pub returns-then-n-gt1024 : goal.returns-then-n-gt1024
returns-then-n-gt1024 c =
    judge-many _ _ _ c.if-n-gt1024.true

pub returns-then-not-fit : goal.returns-then-not-fit
returns-then-not-fit c =
    judge-short _ _ _ c.if-n-gt1024.false c.fit.ensures c.if-not-fit.true

pub overflow_add-result : goal.overflow_add-result
unfolding both_sizes
overflow_add-result c =
    let good = c.well_formed in omega (arith, (judge-room _ _ _ c.if-n-gt1024.false c.fit.ensures c.if-not-fit.false).points-in, good.1.1.0)

pub overflow_add-result-2 : goal.overflow_add-result-2
unfolding both_sizes
overflow_add-result-2 c =
    let good = c.well_formed in omega (arith, (judge-room _ _ _ c.if-n-gt1024.false c.fit.ensures c.if-not-fit.false).starts-in, good.1.1.0)

pub returns : goal.returns
returns c =
    judge-fits _ _ _ c.if-n-gt1024.false c.fit.ensures c.if-not-fit.false
