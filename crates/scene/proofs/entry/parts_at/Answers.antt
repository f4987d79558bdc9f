use Rattle.scene.proofs.entry.parts_at.Goals as goal

pub returns : goal.returns
returns c =
    simp (← c.read_marks.ensures, ← c.parts_of.ensures)
