use Prim.Native.Nat.{◌-◌}
use lib.ListN.{length}
use borrow.Author.Rules.{rules}
use Rattle.test_words.proofs.Comparing.{Left, left-start, left-turn, left-falls, left_end}
use Rattle.test_words.proofs.all_same.Goals as goal

pub returns-then-not-same : goal.returns-then-not-same
returns-then-not-same c =
    left-falls _ _ _ _ c.loop-i.invariant c.loop-i-test.true (rw (← c.word.ensures, ← c.same.ensures) c.if-not-same.true)

pub loop-i-preserved : goal.loop-i-preserved
loop-i-preserved c =
    left-turn _ _ _ _ c.loop-i.invariant c.loop-i-test.true (rw (← c.word.ensures, ← c.same.ensures) c.if-not-same.false)

pub returns : goal.returns
returns c =
    left_end _ _ _ _ c.loop-i.invariant c.loop-i-test.false

pub loop-i-init : goal.loop-i-init
loop-i-init c =
    left-start _ _ _
