use mathlib.Core.Path.{sym, ap}
use Rattle.rows.specs.Entries.{triple_of}
use Rattle.rows.proofs.Rows.{row-cells}
use Rattle.rows.proofs.read_triple.Goals as goal

pub returns : goal.returns
returns c =
    sym (ap triple_of (row-cells 3 c.args.i c.args.xs.now 0 c.requires))
