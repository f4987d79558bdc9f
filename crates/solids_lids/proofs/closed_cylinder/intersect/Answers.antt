use Rattle.solids_lids.specs.Closed.{closed_cylinder_hit}
use Rattle.solids_lids.proofs.closed_cylinder.intersect.Goals as goal

pub returns : goal.returns
unfolding closed_cylinder_hit
returns c =
    simp (← c.intersect-bottom.ensures, ← c.intersect-top.ensures, ← c.min.ensures, ← c.min-2.ensures, ← c.answer.ensures)
