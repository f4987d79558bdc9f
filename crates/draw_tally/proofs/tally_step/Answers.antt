use Rattle.std.proofs.lemmas.Result.{err_from_is_err_and}
use borrow.Author.Tests.{lt-ltb, le-ltb}
use Rattle.draw_tally.specs.Tallies.{tallied, taken}
use Rattle.draw_tally.proofs.tally_step.Goals as goal

pub returns-then-points-room : goal.returns-then-points-room
unfolding tallied taken
returns-then-points-room c =
    rw (c.in_ok-t.was, c.in-Some.is, lt-ltb _ _ c.if-points-room.true)

pub returns-then-l-begins : goal.returns-then-l-begins
unfolding tallied taken
returns-then-l-begins c =
    rw (c.in_ok-t.was, c.in-None.is, ← c.paths_left-l.ensures, lt-ltb _ _ c.if-l-begins.true)

pub returns-in_err-t : goal.returns-in_err-t
unfolding tallied
returns-in_err-t c =
    let p = err_from_is_err_and c.from_residual.result c.from_residual.ensures.1 in rw (p.1, p.2) (rw c.in_err-t.was)

pub returns-else-points-room : goal.returns-else-points-room
unfolding tallied taken
returns-else-points-room c =
    rw (c.in_ok-t.was, c.in-Some.is, le-ltb _ _ c.if-points-room.false)

pub returns-else-l-begins : goal.returns-else-l-begins
unfolding tallied taken
returns-else-l-begins c =
    rw (c.in_ok-t.was, c.in-None.is, ← c.paths_left-l.ensures, le-ltb _ _ c.if-l-begins.false)
