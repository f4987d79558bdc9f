use native.Mathlib.Omega.{arith}
use Rattle.test_words.specs.Words.{half_at}
use borrow.Author.Rules.{rules}
use Rattle.test_words.proofs.half.Goals as goal

pub returns : goal.returns
unfolding half_at
returns c =
    (omega arith, omega arith)
