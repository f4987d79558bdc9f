use Rattle.tree_walk.proofs.Turns.{skip_read}
use Rattle.tree_walk.proofs.skip_row.Goals as goal

pub read_box-b-requires : goal.read_box-b-requires
read_box-b-requires c =
    c.requires

pub returns : goal.returns
returns c =
    skip_read _ _ _ _ _ c.read_box-b.ensures c.skip.ensures
