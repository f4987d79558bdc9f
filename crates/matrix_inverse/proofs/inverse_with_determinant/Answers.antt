use Rattle.matrix_inverse.specs.Inverses.{inverted}
use Rattle.matrix_inverse.proofs.inverse_with_determinant.Goals as goal

pub returns : goal.returns
unfolding inverted
returns c =
    simp (← c.determinant-d.ensures, ← c.adjugate_over-inverse.ensures)
