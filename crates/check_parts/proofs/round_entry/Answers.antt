use Rattle.check_parts.specs.Owners.{round_entry}
use borrow.Author.Tests.{lt-ltb, le-ltb}
use mathlib.Core.Path.{◌∙◌}
use Rattle.check_parts.proofs.round_entry.Goals as goal

pub returns-then-i-marks : goal.returns-then-i-marks
unfolding round_entry
returns-then-i-marks c =
    c.is_round.ensures ∙ rw (lt-ltb _ _ c.if-i-marks.true, c.read_marks.ensures)

pub returns : goal.returns
unfolding round_entry
returns c =
    simp (le-ltb _ _ c.if-i-marks.false)
