use Rattle.text_tokens.proofs.Tokens.{lies_at}
use Rattle.text_tokens.specs.Tokens.{number_in, real_of, and_then}
use Rattle.text_tokens.specs.Seen.{span_as, found_as}
use native.Mathlib.Omega.{arith}
use Rattle.text_tokens.proofs.number_at.Goals as goal

pub returns-in_err-a : goal.returns-in_err-a
unfolding span_as found_as number_in and_then
returns-in_err-a c =
    rw (c.from_residual.ensures, ← c.word_at.ensures.0, c.in_err-a.was)

pub slice_bounds-number-count : goal.slice_bounds-number-count
slice_bounds-number-count c =
    omega (arith, lies_at _ c.word_at.ensures.1 c.in_ok-a.was)

pub slice_bounds-number-start : goal.slice_bounds-number-start
slice_bounds-number-start c =
    omega (arith, lies_at _ c.word_at.ensures.1 c.in_ok-a.was)

pub slice_bounds-number-end : goal.slice_bounds-number-end
slice_bounds-number-end c =
    omega (arith, lies_at _ c.word_at.ensures.1 c.in_ok-a.was)

pub returns : goal.returns
unfolding span_as found_as number_in and_then real_of
returns c =
    rw (← c.word_at.ensures.0, c.in_ok-a.was, ← c.number.ensures, c.in_ok-v.was)

pub returns-in_err-v : goal.returns-in_err-v
unfolding span_as found_as number_in and_then real_of
returns-in_err-v c =
    rw (c.from_residual-in_err-v.ensures, ← c.word_at.ensures.0, c.in_ok-a.was, ← c.number.ensures, c.in_err-v.was)
