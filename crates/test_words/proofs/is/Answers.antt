use borrow.Author.Rules.{rules}
use Rattle.test_words.proofs.is.Goals as goal

pub returns : goal.returns
returns c =
    simp (← c.word.ensures)
