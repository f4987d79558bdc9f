use mathlib.Core.Path.{refl}
use Rattle.matrix.specs.Matrices.{scale_m}
use Rattle.matrix.proofs.Matrix.scale.Goals as goal

pub returns : goal.returns
unfolding scale_m
returns c =
    refl
