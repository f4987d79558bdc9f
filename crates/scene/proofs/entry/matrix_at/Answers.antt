use Rattle.scene.proofs.entry.matrix_at.Goals as goal

pub returns : goal.returns
returns c =
    simp (← c.read_numbers.ensures, ← c.matrix_of.ensures)
