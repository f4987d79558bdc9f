use Rattle.paths.proofs.Judging.{checking-start, checking-turn, checking-bad, checking-end}
use Rattle.paths.proofs.points_ok.Goals as goal

pub loop-i-init : goal.loop-i-init
loop-i-init c =
    checking-start _

pub returns-then-not-within_point : goal.returns-then-not-within_point
returns-then-not-within_point c =
    checking-bad _ _ c.loop-i.invariant c.loop-i-test.true _ _ c.read_point-p.ensures c.within_point.ensures c.if-not-within_point.true

pub loop-i-preserved : goal.loop-i-preserved
loop-i-preserved c =
    checking-turn _ _ c.loop-i.invariant c.loop-i-test.true _ _ c.read_point-p.ensures c.within_point.ensures c.if-not-within_point.false

pub returns : goal.returns
returns c =
    checking-end _ _ c.loop-i.invariant c.loop-i-test.false
