use Rattle.solids_lids.specs.Closed.{closed_cone_hit}
use Rattle.solids_lids.proofs.closed_cone.intersect.Goals as goal

pub returns : goal.returns
unfolding closed_cone_hit
returns c =
    simp (← c.intersect-base.ensures, ← c.min.ensures, ← c.answer.ensures)
