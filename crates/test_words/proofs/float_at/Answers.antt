use borrow.Author.Rules.{rules}
use Rattle.test_words.specs.Words.{float_at}
use Rattle.test_words.proofs.float_at.Goals as goal

pub returns : goal.returns
unfolding float_at
returns c =
    simp (← c.word.ensures, ← c.float_of.ensures)
