use Rattle.tree_beams.specs.Beams.{soonest_of}
use Rattle.tree_beams.proofs.soonest.Goals as goal

pub returns : goal.returns
unfolding soonest_of
returns c =
    cc
