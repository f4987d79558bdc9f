use Rattle.path_chop.specs.Chop as Chop
use mathlib.Core.Path.{◌∙◌}
use Rattle.path_chop.proofs.middle.Goals as goal

pub returns : goal.returns
unfolding Chop.middle_of
returns c =
    c.spot_of.ensures ∙ rw (c.mul_scalar.ensures, c.add.ensures)
