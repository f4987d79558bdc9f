use Rattle.path_chop.specs.Chop as Chop
use Rattle.path_chop.proofs.spot_of.Goals as goal

pub returns : goal.returns
unfolding Chop.spot_of
returns c =
    simp c.mul_position_w.ensures
