use Prim.Native.Nat.{◌*◌}
use Rattle.test_words.proofs.Counting.{Counted}
use Rattle.test_leaves.specs.Records.{call_right}
use Rattle.test_leaves.proofs.wrong.Given as goal

abbrev pub invariant-loop-i : goal.invariant-loop-i
invariant-loop-i l = Counted (λ k. call_right l.s (41 * k)) l.count l.n l.i
