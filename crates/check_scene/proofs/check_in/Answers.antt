use Rattle.check_scene.proofs.Verdicts.{drawn-few, cleared, left-first, rows_are}
use lib.ListN.{length}
use Prim.Native.Nat.{◌*◌, ◌/◌}
use Rattle.check_scene.specs.Checks.{if_accepted}
use Rattle.rows.proofs.Backs.{box-back, numbers-back}
use Rattle.rows.specs.Entries.{numbers_of, numbers_row}
use Rattle.rows.specs.Points.{box_of_row, box_row}
use Rattle.floats.specs.Arith.{zero_f}
use native.Mathlib.Omega.{arith}
use mathlib.Core.Path.{refl, sym, ◌∙◌}
use Rattle.check_scene.proofs.check_in.Goals as goal

pub overflow_mul-n : goal.overflow_mul-n
overflow_mul-n c =
    omega (arith, (c.judge-v.ensures.by_index _ c.in-Ok.is).few)

pub clear-requires-in-Ok : goal.clear-requires-in-Ok
clear-requires-in-Ok c =
    let pre = c.requires in omega (arith, (c.judge-v.ensures.by_index _ c.in-Ok.is).few, c.judge-v.auto.inverses, (pre (c.judge-v.ensures.by_index _ c.in-Ok.is).few).0)

pub overflow_mul-n-in-Ok : goal.overflow_mul-n-in-Ok
overflow_mul-n-in-Ok c =
    omega (arith, (c.judge-v.ensures.by_index _ c.in-Ok.is).few)

pub clear-requires-in-Ok-2 : goal.clear-requires-in-Ok-2
clear-requires-in-Ok-2 c =
    let pre = c.requires in omega (arith, (c.judge-v.ensures.by_index _ c.in-Ok.is).few, c.judge-v.auto.boxes, (pre (c.judge-v.ensures.by_index _ c.in-Ok.is).few).1.0)

pub clear_marks-requires-in-Ok : goal.clear_marks-requires-in-Ok
clear_marks-requires-in-Ok c =
    let args = c.args in let pre = c.requires in omega (arith, (c.judge-v.ensures.by_index _ c.in-Ok.is).few, (c.judge-v.ensures.by_index _ c.in-Ok.is).count, drawn-few args.marks.now, c.judge-v.auto.drawn, (pre (c.judge-v.ensures.by_index _ c.in-Ok.is).few).1.1)

pub returns-in-Err : goal.returns-in-Err
unfolding if_accepted
returns-in-Err c =
    record {
      verdict = sym c.in-Err.is ∙ c.judge-v.ensures.value;
      inverses_are = cleared zero_f c.judge-v.new.inverses c.judge-v.auto.inverses c.clear.ensures;
      boxes_are = cleared zero_f c.judge-v.new.boxes c.judge-v.auto.boxes c.clear-in-Err.ensures;
      drawn_are = cleared 0 c.judge-v.new.drawn c.judge-v.auto.drawn c.clear_marks.ensures;
    }

pub returns-in-Ok : goal.returns-in-Ok
unfolding if_accepted
returns-in-Ok c =
    let args = c.args in let pre = c.requires in record {
      verdict = sym c.in-Ok.is ∙ c.judge-v.ensures.value;
      inverses_are = left-first zero_f c.judge-v.new.inverses c.judge-v.auto.inverses (length args.marks.now / 4 * 16) (omega (arith, (c.judge-v.ensures.by_index _ c.in-Ok.is).few, c.judge-v.auto.inverses, (pre (c.judge-v.ensures.by_index _ c.in-Ok.is).few).0)) c.clear-in-Ok.ensures (rows_are 16 numbers_of numbers_row (λ b. refl) numbers-back (length args.marks.now / 4) c.judge-v.new.inverses (omega (arith, (c.judge-v.ensures.by_index _ c.in-Ok.is).few, c.judge-v.auto.inverses, (pre (c.judge-v.ensures.by_index _ c.in-Ok.is).few).0)) (c.judge-v.ensures.by_index _ c.in-Ok.is).inverted);
      boxes_are = left-first zero_f c.judge-v.new.boxes c.judge-v.auto.boxes (length args.marks.now / 4 * 6) (omega (arith, (c.judge-v.ensures.by_index _ c.in-Ok.is).few, c.judge-v.auto.boxes, (pre (c.judge-v.ensures.by_index _ c.in-Ok.is).few).1.0)) c.clear-in-Ok-2.ensures (rows_are 6 box_of_row box_row (λ b. refl) box-back (length args.marks.now / 4) c.judge-v.new.boxes (omega (arith, (c.judge-v.ensures.by_index _ c.in-Ok.is).few, c.judge-v.auto.boxes, (pre (c.judge-v.ensures.by_index _ c.in-Ok.is).few).1.0)) (c.judge-v.ensures.by_index _ c.in-Ok.is).boxed);
      drawn_are = left-first 0 c.judge-v.new.drawn c.judge-v.auto.drawn c.in-Ok.d (omega (arith, (c.judge-v.ensures.by_index _ c.in-Ok.is).few, (c.judge-v.ensures.by_index _ c.in-Ok.is).count, drawn-few args.marks.now, c.judge-v.auto.drawn, (pre (c.judge-v.ensures.by_index _ c.in-Ok.is).few).1.1)) c.clear_marks-in-Ok.ensures (c.judge-v.ensures.by_index _ c.in-Ok.is).listed_is;
    }
