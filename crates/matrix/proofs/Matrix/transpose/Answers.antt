use mathlib.Core.Path.{refl}
use Rattle.matrix.specs.Matrices.{transpose_m}
use Rattle.matrix.proofs.Matrix.transpose.Goals as goal

pub returns : goal.returns
unfolding transpose_m
returns c =
    refl
