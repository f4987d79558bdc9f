use Rattle.path_chop.specs.Chop as Chop
use Rattle.path_chop.proofs.both_beyond.Goals as goal

pub returns-then-x-limit : goal.returns-then-x-limit
unfolding Chop.both_beyond
returns-then-x-limit c =
    simp c.if-x-limit.true

pub returns-else-x-limit : goal.returns-else-x-limit
unfolding Chop.both_beyond
returns-else-x-limit c =
    simp c.if-x-limit.false
