use Rattle.paths.specs.Ranges.{range_of}
use Rattle.paths.proofs.range_of.Goals as goal

pub returns : goal.returns
unfolding range_of
returns c =
    cc
