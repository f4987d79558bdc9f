use Rattle.tree_walk.proofs.Turns.{skips-empty, skips-behind, skips-late}
use Rattle.tree_walk.proofs.skip.Goals as goal

pub returns-then-s : goal.returns-then-s
returns-then-s c =
    search skips-empty

pub returns-then-s-2 : goal.returns-then-s-2
returns-then-s-2 c =
    search skips-behind

pub returns : goal.returns
returns c =
    search skips-late
