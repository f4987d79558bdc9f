use Rattle.solids.specs.Cones.{cone_hit}
use Rattle.solids.proofs.cone.intersect.Goals as goal

pub returns-then-q : goal.returns-then-q
unfolding cone_hit
returns-then-q c =
    simp (c.if-q.true, ← c.no_hit.ensures)

pub returns : goal.returns
unfolding cone_hit
returns c =
    simp (c.if-q.false, ← c.roots-t.ensures, ← c.on_cone-near.ensures, ← c.on_cone-far.ensures, ← c.first.ensures)
