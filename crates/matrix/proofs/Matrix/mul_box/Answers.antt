use Rattle.matrix.specs.Matrices.{mul_box}
use Rattle.matrix.proofs.Matrix.mul_box.Goals as goal

pub returns : goal.returns
unfolding mul_box
returns c =
    simp (← c.new.ensures, ← c.mul_edge-x.ensures, ← c.new-2.ensures, ← c.mul_edge-y.ensures, ← c.new-3.ensures, ← c.mul_edge-z.ensures, ← c.new-t.ensures, ← c.add.ensures, ← c.add-2.ensures, ← c.add-3.ensures, ← c.add-4.ensures, ← c.add-5.ensures, ← c.add-6.ensures)
