use Rattle.host.proofs.larnt_project.Goals as goal

pub returns : goal.returns
returns c =
    simp (← c.sixteen.ensures, ← c.matrix_of.ensures, ← c.point.ensures, ← c.mul_position_w-v.ensures)
