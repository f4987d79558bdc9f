use mathlib.Core.Path.{refl}
use Rattle.matrix_inverse.specs.Inverses.{determinant}
use Rattle.matrix_inverse.proofs.determinant.Goals as goal

pub returns : goal.returns
unfolding determinant
returns c =
    refl
