use mathlib.Core.Path.{refl}
use Rattle.tree_walk.proofs.nothing.Goals as goal

pub returns : goal.returns
returns c =
    refl
