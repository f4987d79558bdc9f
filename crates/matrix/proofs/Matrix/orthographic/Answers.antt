use mathlib.Core.Path.{refl}
use Rattle.matrix.specs.Matrices.{orthographic_m}
use Rattle.matrix.proofs.Matrix.orthographic.Goals as goal

pub returns : goal.returns
unfolding orthographic_m
returns c =
    refl
