use Rattle.matrix.proofs.Matrix.translated.Goals as goal

pub returns : goal.returns
returns c =
    simp (← c.translate.ensures, ← c.mul.ensures)
