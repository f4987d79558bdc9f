use Rattle.view.specs.Views as Views
use borrow.Author.Rules.{rules}
use Rattle.view.proofs.viewport.Goals as goal

pub returns : goal.returns
unfolding Views.viewport
returns c =
    simp (c.scaled.ensures, c.translate.ensures, c.new.ensures, c.new-2.ensures)
