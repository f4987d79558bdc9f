use Prim.Native.Nat.{◌-◌}
use lib.ListN.{length}
use borrow.Author.Rules.{rules}
use Rattle.test_words.proofs.Comparing.{Left, left-start, left-turn, left-falls, left_end}
use Rattle.test_words.proofs.all_same.Given as goal

abbrev pub invariant-loop-i : goal.invariant-loop-i
invariant-loop-i l = Left l.v l.s l.k l.i
