use Rattle.scene.proofs.Parts.{composite-is}
use Rattle.scene.proofs.entry.composite_of.Goals as goal

pub returns-in-Placed : goal.returns-in-Placed
returns-in-Placed c =
    rw (composite-is _ _ _, ← c.parts_of.ensures, c.in_ok-p.was, c.in-Placed.is, c.matrix_of.ensures, c.matrix_of-in-Placed.ensures)

pub returns-in-Cut : goal.returns-in-Cut
returns-in-Cut c =
    rw (composite-is _ _ _, ← c.parts_of.ensures, c.in_ok-p.was, c.in-Cut.is)

pub returns-in_err-p : goal.returns-in_err-p
returns-in_err-p c =
    rw (composite-is _ _ _, ← c.parts_of.ensures, c.in_err-p.was, c.from_residual.ensures)
