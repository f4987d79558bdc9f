use Rattle.text_reply.proofs.Places.{wrote_as}
use Rattle.text_reply.proofs.Replies.{reply-refused, reply-drawn}
use Rattle.text_scene.proofs.Answers.{read-within, read_fits}
use lib.Seq.{length-take-le}
use lib.ListN.{length}
use mathlib.Core.Path.{sym}
use native.Mathlib.Omega.{arith}
use borrow.Author.Rules.{rules}
use Rattle.text_reply.proofs.reply.Goals as goal

pub overflow_mul-numbers : goal.overflow_mul-numbers
overflow_mul-numbers c =
    omega (arith, (read-within c.read-r.ensures.within_reading c.in-Some.is).0)

pub slice_bounds-numbers-end : goal.slice_bounds-numbers-end
slice_bounds-numbers-end c =
    (read_fits _ _ _ _ _ c.read-r.ensures.reading_fits c.in-Some.is).0

pub slice_bounds-drawn-end : goal.slice_bounds-drawn-end
slice_bounds-drawn-end c =
    sym (length-take-le _ _ (read_fits _ _ _ _ _ c.read-r.ensures.reading_fits c.in-Some.is).0)

pub overflow_mul-marks : goal.overflow_mul-marks
overflow_mul-marks c =
    omega (arith, (read-within c.read-r.ensures.within_reading c.in-Some.is).0)

pub slice_bounds-marks-end : goal.slice_bounds-marks-end
slice_bounds-marks-end c =
    (read_fits _ _ _ _ _ c.read-r.ensures.reading_fits c.in-Some.is).1.0

pub slice_bounds-drawn-end-in-Some : goal.slice_bounds-drawn-end-in-Some
slice_bounds-drawn-end-in-Some c =
    sym (length-take-le _ _ (read_fits _ _ _ _ _ c.read-r.ensures.reading_fits c.in-Some.is).1.0)

pub overflow_mul-points : goal.overflow_mul-points
overflow_mul-points c =
    omega (arith, (read-within c.read-r.ensures.within_reading c.in-Some.is).1.0)

pub slice_bounds-points-end : goal.slice_bounds-points-end
slice_bounds-points-end c =
    (read_fits _ _ _ _ _ c.read-r.ensures.reading_fits c.in-Some.is).1.1.0

pub slice_bounds-drawn-end-in-Some-2 : goal.slice_bounds-drawn-end-in-Some-2
slice_bounds-drawn-end-in-Some-2 c =
    sym (length-take-le _ _ (read_fits _ _ _ _ _ c.read-r.ensures.reading_fits c.in-Some.is).1.1.0)

pub slice_bounds-starts-end : goal.slice_bounds-starts-end
slice_bounds-starts-end c =
    (read_fits _ _ _ _ _ c.read-r.ensures.reading_fits c.in-Some.is).1.1.1.0

pub slice_bounds-drawn-end-in-Some-3 : goal.slice_bounds-drawn-end-in-Some-3
slice_bounds-drawn-end-in-Some-3 c =
    sym (length-take-le _ _ (read_fits _ _ _ _ _ c.read-r.ensures.reading_fits c.in-Some.is).1.1.1.0)

pub slice_bounds-owners-end : goal.slice_bounds-owners-end
slice_bounds-owners-end c =
    (read_fits _ _ _ _ _ c.read-r.ensures.reading_fits c.in-Some.is).1.1.1.1

pub slice_bounds-drawn-end-in-Some-4 : goal.slice_bounds-drawn-end-in-Some-4
slice_bounds-drawn-end-in-Some-4 c =
    sym (length-take-le _ _ (read_fits _ _ _ _ _ c.read-r.ensures.reading_fits c.in-Some.is).1.1.1.1)

pub returns-in-None : goal.returns-in-None
returns-in-None c =
    let args = c.args in record { answer = (wrote_as (length args.out.now) _ _ (reply-refused args.text.now _ c.read-r.new.numbers c.read-r.new.marks c.read-r.new.points c.read-r.new.starts c.read-r.new.owners c.read-r.ensures.owners_after_2 c.in-None.is) (c.write_refused.ensures.answer, c.write_refused.ensures.lent)).0; lent = (wrote_as (length args.out.now) _ _ (reply-refused args.text.now _ c.read-r.new.numbers c.read-r.new.marks c.read-r.new.points c.read-r.new.starts c.read-r.new.owners c.read-r.ensures.owners_after_2 c.in-None.is) (c.write_refused.ensures.answer, c.write_refused.ensures.lent)).1 }

pub returns-in-Some : goal.returns-in-Some
returns-in-Some c =
    let args = c.args in record { answer = (wrote_as (length args.out.now) _ _ (reply-drawn args.text.now _ c.read-r.new.numbers c.read-r.new.marks c.read-r.new.points c.read-r.new.starts c.read-r.new.owners c.read-r.ensures.owners_after_2 _ _ _ _ c.in-Some.is) (c.drawn.ensures.answer, c.drawn.ensures.lent)).0; lent = (wrote_as (length args.out.now) _ _ (reply-drawn args.text.now _ c.read-r.new.numbers c.read-r.new.marks c.read-r.new.points c.read-r.new.starts c.read-r.new.owners c.read-r.ensures.owners_after_2 _ _ _ _ c.in-Some.is) (c.drawn.ensures.answer, c.drawn.ensures.lent)).1 }
