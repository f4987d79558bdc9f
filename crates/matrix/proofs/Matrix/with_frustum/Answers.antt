use Rattle.matrix.proofs.Matrix.with_frustum.Goals as goal

pub returns : goal.returns
returns c =
    simp (← c.frustum.ensures, ← c.mul.ensures)
