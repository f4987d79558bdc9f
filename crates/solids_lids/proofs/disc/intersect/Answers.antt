use Rattle.solids_lids.specs.Discs.{disc_hit}
use Rattle.solids_lids.proofs.disc.intersect.Goals as goal

pub returns-then-ray : goal.returns-then-ray
unfolding disc_hit
returns-then-ray c =
    simp (c.if-ray.true, ← c.no_hit.ensures)

pub returns-then-on_disc : goal.returns-then-on_disc
unfolding disc_hit
returns-then-on_disc c =
    simp (c.if-ray.false, ← c.on_disc.ensures, c.if-on_disc.true, ← c.new.ensures)

pub returns : goal.returns
unfolding disc_hit
returns c =
    simp (c.if-ray.false, ← c.on_disc.ensures, c.if-on_disc.false, ← c.no_hit-2.ensures)
