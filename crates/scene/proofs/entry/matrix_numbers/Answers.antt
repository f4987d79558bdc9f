use mathlib.Core.Path.{refl}
use Rattle.scene.specs.Entries.{matrix_numbers}
use Rattle.scene.proofs.entry.matrix_numbers.Goals as goal

pub returns : goal.returns
unfolding matrix_numbers
returns c =
    refl
