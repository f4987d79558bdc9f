use Rattle.tree_beams.specs.Beams.{latest_of}
use Rattle.tree_beams.proofs.latest.Goals as goal

pub returns : goal.returns
unfolding latest_of
returns c =
    cc
