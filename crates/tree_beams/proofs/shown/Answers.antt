use Rattle.tree_beams.specs.Beams.{is_shown}
use Rattle.tree_beams.proofs.shown.Goals as goal

pub returns-then-p-2 : goal.returns-then-p-2
unfolding is_shown
returns-then-p-2 c =
    rw (c.if-p.true, c.if-p-2.true)

pub returns-else-p-2 : goal.returns-else-p-2
unfolding is_shown
returns-else-p-2 c =
    rw (c.if-p.true, c.if-p-2.false)

pub returns-else-p : goal.returns-else-p
unfolding is_shown
returns-else-p c =
    rw c.if-p.false
