use Rattle.tree_beams.specs.Beams.{misses_box, reached}
use Rattle.tree_beams.proofs.misses.Goals as goal

pub returns-then-l : goal.returns-then-l
unfolding misses_box reached
returns-then-l c =
    simp (← c.sub.ensures, ← c.mul-n.ensures, ← c.sub-2.ensures, ← c.mul-f.ensures, ← c.soonest-l.ensures, c.if-l.true)

pub returns : goal.returns
unfolding misses_box reached
returns c =
    simp (← c.sub.ensures, ← c.mul-n.ensures, ← c.sub-2.ensures, ← c.mul-f.ensures, ← c.soonest-l.ensures, ← c.latest-e.ensures, c.if-l.false, ← c.greater.ensures)
