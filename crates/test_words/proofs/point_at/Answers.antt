use borrow.Author.Rules.{rules}
use Rattle.test_words.specs.Words.{point_at}
use Rattle.test_words.proofs.point_at.Goals as goal

pub returns : goal.returns
unfolding point_at
returns c =
    simp (← c.float_at.ensures, ← c.float_at-2.ensures, ← c.float_at-3.ensures, ← c.new.ensures)
