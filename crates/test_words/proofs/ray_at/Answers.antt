use borrow.Author.Rules.{rules}
use Rattle.test_words.specs.Words.{ray_at}
use Rattle.test_words.proofs.ray_at.Goals as goal

pub returns : goal.returns
unfolding ray_at
returns c =
    simp (← c.point_at.ensures, ← c.point_at-2.ensures, ← c.new.ensures)
