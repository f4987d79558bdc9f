use Rattle.query_merge.proofs.Answers.{room_for, filled_is}
use mathlib.Core.Path.{refl}
use native.Mathlib.Omega.{arith}
use Rattle.query_merge.proofs.fill.Goals as goal

pub overflow_cast-by : goal.overflow_cast-by
overflow_cast-by c =
    let pre = c.requires in omega (arith, (room_for _ _ _ (pre)).few)

pub put_numbers-requires : goal.put_numbers-requires
put_numbers-requires c =
    let pre = c.requires in (omega arith, omega arith, (room_for _ _ _ (pre)).numbers-in)

pub put_marks-requires : goal.put_marks-requires
put_marks-requires c =
    let pre = c.requires in ((room_for _ _ _ (pre)).parts, (room_for _ _ _ (pre)).marks-in)

pub put_numbers-requires-2 : goal.put_numbers-requires-2
put_numbers-requires-2 c =
    let pre = c.requires in (c.given-p.ensures.upper_bound, c.given-q.ensures.upper_bound, omega (arith, c.given-p.ensures.value, c.given-q.ensures.value, (room_for _ _ _ (pre)).points-in))

pub put_starts-requires : goal.put_starts-requires
put_starts-requires c =
    let good = c.well_formed in let pre = c.requires in (rw c.given-p.ensures.value ((room_for _ _ _ (pre)).started (omega (arith, good.1.1.1.1.1.1.1.1.1.1.1.1.0))), (room_for _ _ _ (pre)).starts-in)

pub put_owners-requires : goal.put_owners-requires
put_owners-requires c =
    let pre = c.requires in ((room_for _ _ _ (pre)).owned, (room_for _ _ _ (pre)).owners-in)

pub returns : goal.returns
returns c =
    filled_is _ _ _ refl c.given-p.ensures.value c.given-q.ensures.value c.put_numbers.ensures c.put_marks.ensures c.put_numbers-2.ensures c.put_starts.ensures c.put_owners.ensures
