use Prim.Native.Nat.{◌*◌}
use native.Mathlib.Omega.{arith}
use lib.ListN.{length-set}
use Rattle.rows.specs.Points.{box_row}
use Rattle.rows.proofs.Rows.{written_is}
use Rattle.rows.proofs.write_box.Goals as goal

pub returns : goal.returns
returns c =
    written_is (c.args.i * 6) (box_row c.args.b) c.args.xs.now

pub bounds-xs-at-2 : goal.bounds-xs-at-2
bounds-xs-at-2 c =
    simp length-set (omega arith)

pub bounds-xs-at-3 : goal.bounds-xs-at-3
bounds-xs-at-3 c =
    simp length-set (omega arith)

pub bounds-xs-at-4 : goal.bounds-xs-at-4
bounds-xs-at-4 c =
    simp length-set (omega arith)

pub bounds-xs-at-5 : goal.bounds-xs-at-5
bounds-xs-at-5 c =
    simp length-set (omega arith)

pub bounds-xs-at-6 : goal.bounds-xs-at-6
bounds-xs-at-6 c =
    simp length-set (omega arith)

pub shape_of-xs : goal.shape_of-xs
shape_of-xs c =
    simp length-set
