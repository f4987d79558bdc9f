use Prim.Native.Nat.{◌-◌}
use borrow.Author.Rules.{rules}
use Rattle.test_words.proofs.Counting.{Counted, counted_start, counted-turn, counted-end}
use Rattle.test_sqrt.specs.Records.{root_right}
use Rattle.test_sqrt.proofs.wrong.Given as goal

abbrev pub invariant-loop-i : goal.invariant-loop-i
invariant-loop-i l = Counted (root_right l.s) l.count l.n l.i
