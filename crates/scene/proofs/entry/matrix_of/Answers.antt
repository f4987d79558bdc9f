use mathlib.Core.Path.{refl}
use Rattle.scene.specs.Entries.{matrix_of}
use Rattle.scene.proofs.entry.matrix_of.Goals as goal

pub returns : goal.returns
unfolding matrix_of
returns c =
    refl
