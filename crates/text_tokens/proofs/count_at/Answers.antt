use Rattle.text_tokens.proofs.Tokens.{lies_at}
use Rattle.text_tokens.specs.Tokens.{count_in, whole_of, and_then}
use Rattle.text_tokens.specs.Seen.{span_as, counted_as}
use native.Mathlib.Omega.{arith}
use Rattle.text_tokens.proofs.count_at.Goals as goal

pub returns-in_err-a : goal.returns-in_err-a
unfolding span_as counted_as count_in and_then
returns-in_err-a c =
    rw (c.from_residual.ensures, ← c.word_at.ensures.0, c.in_err-a.was)

pub slice_bounds-decimal-count : goal.slice_bounds-decimal-count
slice_bounds-decimal-count c =
    omega (arith, lies_at _ c.word_at.ensures.1 c.in_ok-a.was)

pub slice_bounds-decimal-start : goal.slice_bounds-decimal-start
slice_bounds-decimal-start c =
    omega (arith, lies_at _ c.word_at.ensures.1 c.in_ok-a.was)

pub slice_bounds-decimal-end : goal.slice_bounds-decimal-end
slice_bounds-decimal-end c =
    omega (arith, lies_at _ c.word_at.ensures.1 c.in_ok-a.was)

pub returns : goal.returns
unfolding span_as counted_as count_in and_then whole_of
returns c =
    rw (← c.word_at.ensures.0, c.in_ok-a.was, ← c.decimal.ensures, c.in_ok-v.was)

pub returns-in_err-v : goal.returns-in_err-v
unfolding span_as counted_as count_in and_then whole_of
returns-in_err-v c =
    rw (c.from_residual-in_err-v.ensures, ← c.word_at.ensures.0, c.in_ok-a.was, ← c.decimal.ensures, c.in_err-v.was)
