use Rattle.view.specs.Views as Views
use borrow.Author.Rules.{rules}
use Rattle.view.proofs.View.args.Goals as goal

pub returns : goal.returns
unfolding Views.args_of
returns c =
    simp (c.mul.ensures, c.viewport.ensures)
