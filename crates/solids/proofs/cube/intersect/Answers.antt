use Rattle.solids.specs.Cubes.{cube_hit}
use Rattle.solids.proofs.cube.intersect.Goals as goal

pub returns-then-starts_inside : goal.returns-then-starts_inside
unfolding cube_hit
returns-then-starts_inside c =
    simp (← c.sub.ensures, ← c.div-n.ensures, ← c.sub-2.ensures, ← c.div-f.ensures, ← c.min.ensures, ← c.max_component-t0.ensures, ← c.max.ensures, ← c.min_component-t1.ensures, ← c.starts_inside.ensures, c.if-starts_inside.true, ← c.new.ensures)

pub returns-then-enters : goal.returns-then-enters
unfolding cube_hit
returns-then-enters c =
    simp (← c.sub.ensures, ← c.div-n.ensures, ← c.sub-2.ensures, ← c.div-f.ensures, ← c.min.ensures, ← c.max_component-t0.ensures, ← c.max.ensures, ← c.min_component-t1.ensures, ← c.starts_inside.ensures, c.if-starts_inside.false, ← c.enters.ensures, c.if-enters.true, ← c.new-then-enters.ensures)

pub returns : goal.returns
unfolding cube_hit
returns c =
    simp (← c.sub.ensures, ← c.div-n.ensures, ← c.sub-2.ensures, ← c.div-f.ensures, ← c.min.ensures, ← c.max_component-t0.ensures, ← c.max.ensures, ← c.min_component-t1.ensures, ← c.starts_inside.ensures, c.if-starts_inside.false, ← c.enters.ensures, c.if-enters.false, ← c.no_hit.ensures)
