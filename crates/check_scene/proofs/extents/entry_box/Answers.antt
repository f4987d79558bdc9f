use Rattle.check_scene.specs.Extents.{entry_box}
use mathlib.Core.Path.{◌∙◌}
use Rattle.check_scene.proofs.extents.entry_box.Goals as goal

pub returns-in-Some-Simple : goal.returns-in-Some-Simple
unfolding entry_box
returns-in-Some-Simple c =
    let a = c.in-Some-Simple in c.bounding_box.ensures ∙ rw (a.is, (rw a.is at a.field-0-is))

pub returns-in-Some-Placed : goal.returns-in-Some-Placed
unfolding entry_box
returns-in-Some-Placed c =
    let a = c.in-Some-Placed in c.mul_box.ensures ∙ rw (a.is, (rw a.is at a.field-0-is), c.box_at.ensures)

pub returns-in-Some-Cut : goal.returns-in-Some-Cut
unfolding entry_box
returns-in-Some-Cut c =
    let a = c.in-Some-Cut in c.extend.ensures ∙ rw (a.is, (rw a.is at a.field-0-is), c.box_at-in-Some-Cut.ensures, c.box_at-in-Some-Cut-2.ensures)

pub returns-in-None : goal.returns-in-None
unfolding entry_box
returns-in-None c =
    c.zero_box.ensures ∙ rw c.in-None.is
