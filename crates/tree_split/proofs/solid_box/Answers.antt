use Rattle.lists.proofs.Properties.{each_at}
use native.Mathlib.Omega.{arith}
use Rattle.tree_split.proofs.solid_box.Goals as goal

pub overflow_cast-s : goal.overflow_cast-s
overflow_cast-s c =
    omega (arith, c.shared_slice_known-3-1.given c.args.i)

pub read_box-requires : goal.read_box-requires
read_box-requires c =
    (each_at _ _ _ c.requires.0 c.requires.1).there
