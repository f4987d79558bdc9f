use Rattle.matrix.specs.Matrices.{mul_edge}
use Rattle.matrix.proofs.mul_edge.Goals as goal

pub returns : goal.returns
unfolding mul_edge
returns c =
    simp (← c.mul_scalar-a.ensures, ← c.mul_scalar-b.ensures, ← c.min.ensures, ← c.max.ensures)
