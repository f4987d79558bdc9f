use Rattle.check_scene.specs.Extents.{stored_box}
use borrow.Author.Tests.{lt-ltb, le-ltb}
use native.Mathlib.Omega.{arith}
use mathlib.Core.Path.{◌∙◌}
use Rattle.check_scene.proofs.extents.box_at.Goals as goal

pub read_box-requires : goal.read_box-requires
read_box-requires c =
    omega (arith, c.if-k-boxes.true)

pub returns-then-k-boxes : goal.returns-then-k-boxes
unfolding stored_box
returns-then-k-boxes c =
    c.read_box.ensures ∙ rw (lt-ltb _ _ c.if-k-boxes.true)

pub returns : goal.returns
unfolding stored_box
returns c =
    c.zero_box.ensures ∙ rw (le-ltb _ _ c.if-k-boxes.false)
