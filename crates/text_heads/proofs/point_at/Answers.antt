use Rattle.text_heads.specs.Cursors.{spot_as}
use Rattle.text_heads.specs.Heads.{point_in}
use Rattle.text_tokens.specs.Seen.{found_as}
use Rattle.text_tokens.specs.Tokens.{and_then}
use Rattle.text_heads.proofs.point_at.Goals as goal

pub returns-in_err-x : goal.returns-in_err-x
unfolding point_in and_then found_as spot_as
returns-in_err-x c =
    rw (c.from_residual.ensures, ← c.number_at.ensures, c.in_err-x.was)

pub returns-in_err-y : goal.returns-in_err-y
unfolding point_in and_then found_as spot_as
returns-in_err-y c =
    rw (c.from_residual-in_err-y.ensures, ← c.number_at.ensures, c.in_ok-x.was, ← c.number_at-2.ensures, c.in_err-y.was)

pub returns-in_err-z : goal.returns-in_err-z
unfolding point_in and_then found_as spot_as
returns-in_err-z c =
    rw (c.from_residual-in_err-z.ensures, ← c.number_at.ensures, c.in_ok-x.was, ← c.number_at-2.ensures, c.in_ok-y.was, ← c.number_at-3.ensures, c.in_err-z.was)

pub returns : goal.returns
unfolding point_in and_then found_as spot_as
returns c =
    rw (← c.number_at.ensures, c.in_ok-x.was, ← c.number_at-2.ensures, c.in_ok-y.was, ← c.number_at-3.ensures, c.in_ok-z.was)
