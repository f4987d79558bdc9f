use Prim.Native.Nat.{◌-◌}
use borrow.Author.Rules.{rules}
use Rattle.test_words.proofs.Counting.{Counted, counted_start, counted-turn, counted-end}
use Rattle.test_sqrt.specs.Records.{root_right}
use Rattle.test_sqrt.proofs.wrong.Goals as goal

pub loop-i-preserved : goal.loop-i-preserved
loop-i-preserved c =
    counted-turn _ _ _ _ c.loop-i.invariant c.loop-i-test.true c.root_right.ensures c.miss-n.ensures

pub returns : goal.returns
returns c =
    counted-end _ _ _ _ c.loop-i.invariant c.loop-i-test.false

pub loop-i-init : goal.loop-i-init
loop-i-init c =
    counted_start _ _
