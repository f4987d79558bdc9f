use Rattle.tree_split.specs.Build.{area_of}
use Rattle.tree_split.proofs.surface_area.Goals as goal

pub returns : goal.returns
unfolding area_of
returns c =
    cc
