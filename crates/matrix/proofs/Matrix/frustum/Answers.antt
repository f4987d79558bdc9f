use mathlib.Core.Path.{refl}
use Rattle.matrix.specs.Matrices.{frustum_m}
use Rattle.matrix.proofs.Matrix.frustum.Goals as goal

pub returns : goal.returns
unfolding frustum_m
returns c =
    refl
