use native.Mathlib.Omega.{arith}
use Rattle.draw_fates.specs.Fates.{fate_word}
use Rattle.draw_fates.proofs.Ways.{word_fits}
use Rattle.draw_fates.proofs.word.Goals as goal

pub overflow_add-result : goal.overflow_add-result
overflow_add-result c =
    omega (arith, word_fits _ _ c.number-n.ensures)

pub returns-in-Ok-Clipped : goal.returns-in-Ok-Clipped
unfolding fate_word
returns-in-Ok-Clipped c =
    let a = c.in-Ok-Clipped in rw (a.is, rw a.is at a.field-0-is)

pub returns-in-Ok-Visible : goal.returns-in-Ok-Visible
unfolding fate_word
returns-in-Ok-Visible c =
    let a = c.in-Ok-Visible in rw (a.is, rw a.is at a.field-0-is)

pub returns-in-Ok-Hidden : goal.returns-in-Ok-Hidden
unfolding fate_word
returns-in-Ok-Hidden c =
    let a = c.in-Ok-Hidden in rw (a.is, rw a.is at a.field-0-is)

pub returns-in-Err : goal.returns-in-Err
unfolding fate_word
returns-in-Err c =
    rw (c.in-Err.is, c.number-n.ensures)
