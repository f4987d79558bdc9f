use Rattle.path_chop.specs.Chop as Chop
use Rattle.path_chop.proofs.both_below.Goals as goal

pub returns-then-x : goal.returns-then-x
unfolding Chop.both_below
returns-then-x c =
    simp c.if-x.true

pub returns-else-x : goal.returns-else-x
unfolding Chop.both_below
returns-else-x c =
    simp c.if-x.false
