use native.Mathlib.Omega.{arith}
use borrow.Author.Rules.{rules}
use Rattle.test_words.specs.Words.{word_at}
use Rattle.test_words.proofs.word.Goals as goal

pub returns : goal.returns
unfolding word_at
returns c =
    omega arith
