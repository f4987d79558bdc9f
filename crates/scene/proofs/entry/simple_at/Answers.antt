use mathlib.Core.Path.{◌∙◌}
use Rattle.scene.proofs.entry.simple_at.Goals as goal

pub returns : goal.returns
returns c =
    c.simple_of.ensures ∙ rw (c.read_marks.ensures, c.read_numbers.ensures)
