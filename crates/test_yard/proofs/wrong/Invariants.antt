use Prim.Native.Nat.{◌-◌}
use mathlib.Core.Path.{◌∙◌}
use Rattle.test_words.proofs.Counting.{Counted}
use Rattle.test_yard.specs.Records.{right_at}
use Rattle.test_yard.proofs.wrong.Given as goal

abbrev pub invariant-loop-i : goal.invariant-loop-i
invariant-loop-i l = Counted (right_at l.s) l.all l.n l.i
