use mathlib.Core.Path.{sym, ap}
use lib.Ieee.{nan}
use Rattle.rows.specs.Entries.{numbers_of}
use Rattle.rows.proofs.Rows.{row-cells}
use Rattle.rows.proofs.read_numbers.Goals as goal

pub returns : goal.returns
returns c =
    sym (ap numbers_of (row-cells 16 c.args.i c.args.xs.now nan c.requires))
