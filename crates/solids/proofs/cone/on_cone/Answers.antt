use Rattle.solids.specs.Cones.{on_cone}
use Rattle.solids.proofs.cone.on_cone.Goals as goal

pub returns-then-p : goal.returns-then-p
unfolding on_cone
returns-then-p c =
    simp (c.if-t.true, ← c.position-p.ensures, c.if-p.true)

pub returns-else-p : goal.returns-else-p
unfolding on_cone
returns-else-p c =
    simp (c.if-t.true, ← c.position-p.ensures, c.if-p.false)

pub returns : goal.returns
unfolding on_cone
returns c =
    simp c.if-t.false
