use native.Mathlib.Omega.{arith}
use Rattle.test_words.proofs.miss.Goals as goal

pub returns-then-right : goal.returns-then-right
returns-then-right c =
    (simp c.if-right.true, omega arith)

pub returns-else-right : goal.returns-else-right
returns-else-right c =
    (simp c.if-right.false, omega arith)
