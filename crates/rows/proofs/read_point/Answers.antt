use mathlib.Core.Path.{sym, ap}
use lib.Ieee.{nan}
use Rattle.rows.specs.Points.{point_of}
use Rattle.rows.proofs.Rows.{row-cells}
use Rattle.rows.proofs.read_point.Goals as goal

pub returns : goal.returns
returns c =
    sym (ap point_of (row-cells 3 c.args.i c.args.xs.now nan c.requires))
