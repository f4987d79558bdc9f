use mathlib.Core.Path.{sym, ap}
use Rattle.rows.specs.Entries.{marks_of}
use Rattle.rows.proofs.Rows.{row-cells}
use Rattle.rows.proofs.read_marks.Goals as goal

pub returns : goal.returns
returns c =
    sym (ap marks_of (row-cells 4 c.args.i c.args.xs.now 0 c.requires))
