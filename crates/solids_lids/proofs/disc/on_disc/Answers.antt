use Rattle.solids_lids.specs.Discs.{on_disc}
use Rattle.solids_lids.proofs.disc.on_disc.Goals as goal

pub returns-then-t : goal.returns-then-t
unfolding on_disc
returns-then-t c =
    simp (c.if-t.true, ← c.position-p.ensures)

pub returns : goal.returns
unfolding on_disc
returns c =
    simp c.if-t.false
