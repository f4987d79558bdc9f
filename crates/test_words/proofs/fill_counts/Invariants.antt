use Rattle.test_words.proofs.Filling.{Filled, filled-start, filled-turn, filled-end}
use Rattle.test_words.specs.Words.{word_at}
use mathlib.Core.Path.{refl}
use lib.ListN.{length}
use native.Mathlib.Omega.{arith}
use native.Mathlib.Nat.{mod-lt}
use Prim.Native.Nat.{◌+◌, ◌-◌, ◌%◌}
use borrow.Author.Rules.{rules}
use Rattle.test_words.proofs.fill_counts.Given as goal

abbrev pub invariant-loop-j : goal.invariant-loop-j
invariant-loop-j l = Filled (λ i. word_at l.s (l.k + i % l.period)) (length l.initial.xs) l.n l.j l.xs
