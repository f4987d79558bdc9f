use Rattle.solids.specs.Cylinders.{cylinder_hit}
use Rattle.solids.proofs.cylinder.intersect.Goals as goal

pub returns-then-q : goal.returns-then-q
unfolding cylinder_hit
returns-then-q c =
    simp (c.if-q.true, ← c.no_hit.ensures)

pub returns : goal.returns
unfolding cylinder_hit
returns c =
    simp (c.if-q.false, ← c.roots-t.ensures, ← c.on_tube-near.ensures, ← c.on_tube-far.ensures, ← c.first.ensures)
