use Rattle.test_words.proofs.Counting.{counted_start, counted-turn, counted-end}
use Rattle.test_leaves.proofs.wrong.Goals as goal

pub loop-i-preserved : goal.loop-i-preserved
loop-i-preserved c =
    counted-turn _ _ _ _ c.loop-i.invariant c.loop-i-test.true c.call_right.ensures c.miss-n.ensures

pub returns : goal.returns
returns c =
    counted-end _ _ _ _ c.loop-i.invariant c.loop-i-test.false

pub loop-i-init : goal.loop-i-init
loop-i-init c =
    counted_start _ _
