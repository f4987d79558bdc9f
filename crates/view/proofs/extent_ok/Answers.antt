use Rattle.view.specs.Views as Views
use Rattle.view.proofs.extent_ok.Goals as goal

pub returns-then-x : goal.returns-then-x
unfolding Views.extent_ok
returns-then-x c =
    simp c.if-x.true

pub returns-else-x : goal.returns-else-x
unfolding Views.extent_ok
returns-else-x c =
    simp c.if-x.false
