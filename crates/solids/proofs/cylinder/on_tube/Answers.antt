use Rattle.solids.specs.Cylinders.{on_tube}
use Rattle.solids.proofs.cylinder.on_tube.Goals as goal

pub returns-then-z0-z : goal.returns-then-z0-z
unfolding on_tube
returns-then-z0-z c =
    simp (c.if-t.true, c.if-z0-z.true)

pub returns-else-z0-z : goal.returns-else-z0-z
unfolding on_tube
returns-else-z0-z c =
    simp (c.if-t.true, c.if-z0-z.false)

pub returns : goal.returns
unfolding on_tube
returns c =
    simp c.if-t.false
