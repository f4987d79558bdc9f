use Rattle.solids.specs.Spheres.{sphere_hit}
use Rattle.solids.proofs.sphere.intersect.Goals as goal

pub returns-then-t1 : goal.returns-then-t1
unfolding sphere_hit
returns-then-t1 c =
    simp (← c.sub-to.ensures, ← c.dot-b.ensures, ← c.dot.ensures, c.if-q.true, ← c.root-s.ensures, c.if-t1.true, ← c.new.ensures)

pub returns-then-t2 : goal.returns-then-t2
unfolding sphere_hit
returns-then-t2 c =
    simp (← c.sub-to.ensures, ← c.dot-b.ensures, ← c.dot.ensures, c.if-q.true, ← c.root-s.ensures, c.if-t1.false, c.if-t2.true, ← c.new-then-t2.ensures)

pub returns-then-q : goal.returns-then-q
unfolding sphere_hit
returns-then-q c =
    simp (← c.sub-to.ensures, ← c.dot-b.ensures, ← c.dot.ensures, c.if-q.true, ← c.root-s.ensures, c.if-t1.false, c.if-t2.false, ← c.no_hit.ensures)

pub returns : goal.returns
unfolding sphere_hit
returns c =
    simp (← c.sub-to.ensures, ← c.dot-b.ensures, ← c.dot.ensures, c.if-q.false, ← c.no_hit-2.ensures)
