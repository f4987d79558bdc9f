use mathlib.Core.Path.{ap}
use Rattle.matrix_inverse.specs.declared.Inverted.{Inverted}
use Rattle.matrix_inverse.proofs.inverse.Goals as goal

pub returns : goal.returns
returns c =
    ap (λ (i : Inverted). i.inverse) c.inverse_with_determinant.ensures
