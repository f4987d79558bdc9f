use mathlib.Core.Path.{sym, ap}
use lib.Ieee.{nan}
use Rattle.rows.specs.Points.{box_of_row}
use Rattle.rows.proofs.Rows.{row-cells}
use Rattle.rows.proofs.read_box.Goals as goal

pub returns : goal.returns
returns c =
    sym (ap box_of_row (row-cells 6 c.args.i c.args.xs.now nan c.requires))
