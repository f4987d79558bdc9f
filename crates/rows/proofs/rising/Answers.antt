use Rattle.rows.proofs.Starts.{rising-start, rising-turn, rising-falls, rising-end}
use Rattle.rows.proofs.rising.Goals as goal

pub returns-then-end-starts : goal.returns-then-end-starts
returns-then-end-starts c =
    rising-falls _ _ _ c.loop-i.invariant c.loop-i-test.true _ c.end_of-end.ensures c.if-end-starts.true

pub loop-i-preserved : goal.loop-i-preserved
loop-i-preserved c =
    rising-turn _ _ _ c.loop-i.invariant c.loop-i-test.true _ c.end_of-end.ensures c.if-end-starts.false

pub returns : goal.returns
returns c =
    rising-end _ _ _ c.loop-i.invariant c.loop-i-test.false

pub loop-i-init : goal.loop-i-init
loop-i-init c =
    rising-start _ _
