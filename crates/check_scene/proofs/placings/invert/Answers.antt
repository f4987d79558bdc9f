use Rattle.check_scene.proofs.Inverting.{other-passes, other-stored, placing-passes, placing-stored}
use Rattle.scene.specs.Entries.{matrix_of}
use Rattle.rows.specs.declared.Numbers.{Numbers}
use Rattle.rows.specs.Entries.{numbers_row}
use Rattle.rows.specs.Rows.{set_row}
use Rattle.matrix_inverse.specs.Inverses.{inverted}
use native.Mathlib.Omega.{arith}
use mathlib.Core.Path.{ap, ◌∙◌}
use Rattle.check_scene.proofs.placings.invert.Goals as goal

pub write_numbers-requires : goal.write_numbers-requires
write_numbers-requires c =
    let pre = c.requires in omega (arith, pre.1.1)

pub returns-then-m-ne6 : goal.returns-then-m-ne6
returns-then-m-ne6 c =
    let args = c.args in record { value = other-passes _ _ c.read_marks-m.ensures c.if-m-ne6.true; inverses_after = c.write_numbers.ensures ∙ ap (λ (x : Numbers). set_row 16 args.i (numbers_row x) args.inverses.now) (other-stored _ _ c.read_marks-m.ensures c.zero_numbers.ensures c.if-m-ne6.true) }

pub write_numbers-requires-2 : goal.write_numbers-requires-2
write_numbers-requires-2 c =
    let pre = c.requires in omega (arith, pre.1.1)

pub returns : goal.returns
returns c =
    let args = c.args in record { value = placing-passes _ _ c.read_marks-m.ensures c.if-m-ne6.false (c.inverse_with_determinant-v.ensures ∙ ap inverted (c.matrix_of.ensures ∙ ap matrix_of c.read_numbers-n.ensures)) c.invertible.ensures; inverses_after = c.write_numbers-2.ensures ∙ ap (λ (x : Numbers). set_row 16 args.i (numbers_row x) args.inverses.now) (placing-stored _ _ c.read_marks-m.ensures c.if-m-ne6.false (c.inverse_with_determinant-v.ensures ∙ ap inverted (c.matrix_of.ensures ∙ ap matrix_of c.read_numbers-n.ensures)) c.matrix_numbers.ensures) }
