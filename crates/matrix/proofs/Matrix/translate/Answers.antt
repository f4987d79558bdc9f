use mathlib.Core.Path.{refl}
use Rattle.matrix.specs.Matrices.{translate_m}
use Rattle.matrix.proofs.Matrix.translate.Goals as goal

pub returns : goal.returns
unfolding translate_m
returns c =
    refl
