use Rattle.solids.specs.Triangles.{triangle_hit}
use Rattle.solids.proofs.triangle.intersect_vertices.Goals as goal

pub returns-then-in_band : goal.returns-then-in_band
unfolding triangle_hit
returns-then-in_band c =
    simp (← c.sub-e1.ensures, ← c.sub-e2.ensures, ← c.cross-p.ensures, ← c.dot-det.ensures, ← c.in_band.ensures, c.if-in_band.true, ← c.no_hit.ensures)

pub returns-then-not-in_unit : goal.returns-then-not-in_unit
unfolding triangle_hit
returns-then-not-in_unit c =
    simp (← c.sub-e1.ensures, ← c.sub-e2.ensures, ← c.cross-p.ensures, ← c.dot-det.ensures, ← c.in_band.ensures, c.if-in_band.false, ← c.sub-t.ensures, ← c.dot.ensures, ← c.in_unit.ensures, c.if-not-in_unit.true, ← c.no_hit-then-not-in_unit.ensures)

pub returns-then-is_beyond : goal.returns-then-is_beyond
unfolding triangle_hit
returns-then-is_beyond c =
    simp (← c.sub-e1.ensures, ← c.sub-e2.ensures, ← c.cross-p.ensures, ← c.dot-det.ensures, ← c.in_band.ensures, c.if-in_band.false, ← c.sub-t.ensures, ← c.dot.ensures, ← c.in_unit.ensures, c.if-not-in_unit.false, ← c.cross-q.ensures, ← c.dot-2.ensures, ← c.is_beyond.ensures, c.if-is_beyond.true, ← c.no_hit-then-is_beyond.ensures)

pub returns-then-d : goal.returns-then-d
unfolding triangle_hit
returns-then-d c =
    simp (← c.sub-e1.ensures, ← c.sub-e2.ensures, ← c.cross-p.ensures, ← c.dot-det.ensures, ← c.in_band.ensures, c.if-in_band.false, ← c.sub-t.ensures, ← c.dot.ensures, ← c.in_unit.ensures, c.if-not-in_unit.false, ← c.cross-q.ensures, ← c.dot-2.ensures, ← c.is_beyond.ensures, c.if-is_beyond.false, ← c.dot-3.ensures, c.if-d.true, ← c.no_hit-then-d.ensures)

pub returns : goal.returns
unfolding triangle_hit
returns c =
    simp (← c.sub-e1.ensures, ← c.sub-e2.ensures, ← c.cross-p.ensures, ← c.dot-det.ensures, ← c.in_band.ensures, c.if-in_band.false, ← c.sub-t.ensures, ← c.dot.ensures, ← c.in_unit.ensures, c.if-not-in_unit.false, ← c.cross-q.ensures, ← c.dot-2.ensures, ← c.is_beyond.ensures, c.if-is_beyond.false, ← c.dot-3.ensures, c.if-d.false, ← c.new.ensures)
