use Rattle.plotter_pens.specs.Pens.{nearer_path}
use Rattle.plotter_pens.proofs.nearer_path.Goals as goal

pub returns-then-not-distance-b : goal.returns-then-not-distance-b
unfolding nearer_path
returns-then-not-distance-b c =
    rw (c.in-Some.is, c.if-not-distance-b.true)

pub returns-else-not-distance-b : goal.returns-else-not-distance-b
unfolding nearer_path
returns-else-not-distance-b c =
    rw (c.in-Some.is, c.if-not-distance-b.false)

pub returns-in_default : goal.returns-in_default
unfolding nearer_path
returns-in_default c =
    rw c.in_default.is
