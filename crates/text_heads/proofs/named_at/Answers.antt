use Rattle.text_heads.specs.Heads.{named_in}
use Rattle.text_tokens.proofs.Tokens.{lies_at}
use Rattle.text_tokens.specs.Seen.{step_as, span_as}
use Rattle.text_tokens.specs.Tokens.{and_then}
use native.Mathlib.Omega.{arith}
use Rattle.text_heads.proofs.named_at.Goals as goal

pub returns-in_err-a : goal.returns-in_err-a
unfolding named_in and_then step_as span_as
returns-in_err-a c =
    rw (c.from_residual.ensures, ← c.head_at.ensures.0, c.in_err-a.was)

pub slice_bounds-same_word-count : goal.slice_bounds-same_word-count
slice_bounds-same_word-count c =
    omega (arith, lies_at _ c.head_at.ensures.1 c.in_ok-a.was)

pub slice_bounds-same_word-start : goal.slice_bounds-same_word-start
slice_bounds-same_word-start c =
    omega (arith, lies_at _ c.head_at.ensures.1 c.in_ok-a.was)

pub slice_bounds-same_word-end : goal.slice_bounds-same_word-end
slice_bounds-same_word-end c =
    omega (arith, lies_at _ c.head_at.ensures.1 c.in_ok-a.was)

pub returns-then-same_word : goal.returns-then-same_word
unfolding named_in and_then step_as span_as
returns-then-same_word c =
    rw (← c.head_at.ensures.0, c.in_ok-a.was, ← c.same_word.ensures, c.if-same_word.true)

pub returns : goal.returns
unfolding named_in and_then step_as span_as
returns c =
    rw (← c.head_at.ensures.0, c.in_ok-a.was, ← c.same_word.ensures, c.if-same_word.false)
