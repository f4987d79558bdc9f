use Rattle.host.proofs.larnt_box_test.Goals as goal

pub returns : goal.returns
returns c =
    simp (← c.bounds.ensures, ← c.ray_from.ensures, ← c.intersect-s.ensures)
