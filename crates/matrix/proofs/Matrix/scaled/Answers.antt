use Rattle.matrix.proofs.Matrix.scaled.Goals as goal

pub returns : goal.returns
returns c =
    simp (← c.scale.ensures, ← c.mul.ensures)
