use Rattle.tree_split.specs.Build.{middle}
use mathlib.Core.Path.{refl}
use Rattle.tree_split.proofs.centroid.Goals as goal

pub returns : goal.returns
unfolding middle
returns c =
    refl
