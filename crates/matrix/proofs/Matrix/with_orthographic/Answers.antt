use Rattle.matrix.proofs.Matrix.with_orthographic.Goals as goal

pub returns : goal.returns
returns c =
    simp (← c.orthographic.ensures, ← c.mul.ensures)
