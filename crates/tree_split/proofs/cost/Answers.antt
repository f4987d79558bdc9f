use Rattle.tree_split.proofs.Sweeps.{count-float}
use Rattle.tree_split.proofs.cost.Goals as goal

pub int_to_float-result : goal.int_to_float-result
int_to_float-result c =
    count-float _ c.requires.0

pub int_to_float-result-2 : goal.int_to_float-result-2
int_to_float-result-2 c =
    count-float _ c.requires.1

pub returns : goal.returns
returns c =
    cc
