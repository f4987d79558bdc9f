use mathlib.Core.Path.{refl}
use Rattle.matrix.specs.Matrices.{identity_m}
use Rattle.matrix.proofs.Matrix.identity.Goals as goal

pub returns : goal.returns
unfolding identity_m
returns c =
    refl
