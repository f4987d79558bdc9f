use Rattle.text_heads.specs.Heads.{kind_in}
use Rattle.text_tokens.proofs.Tokens.{lies_at}
use Rattle.text_tokens.specs.Seen.{counted_as, span_as}
use Rattle.text_tokens.specs.Tokens.{and_then}
use borrow.Author.Tests.{eq-eqb, ne_eqb}
use native.Mathlib.Omega.{arith}
use Rattle.text_heads.proofs.kind_at.Goals as goal

pub returns-in_err-a : goal.returns-in_err-a
unfolding kind_in and_then counted_as span_as
returns-in_err-a c =
    rw (c.from_residual.ensures, ← c.head_at.ensures.0, c.in_err-a.was)

pub slice_bounds-kind_of-count : goal.slice_bounds-kind_of-count
slice_bounds-kind_of-count c =
    omega (arith, lies_at _ c.head_at.ensures.1 c.in_ok-a.was)

pub slice_bounds-kind_of-start : goal.slice_bounds-kind_of-start
slice_bounds-kind_of-start c =
    omega (arith, lies_at _ c.head_at.ensures.1 c.in_ok-a.was)

pub slice_bounds-kind_of-end : goal.slice_bounds-kind_of-end
slice_bounds-kind_of-end c =
    omega (arith, lies_at _ c.head_at.ensures.1 c.in_ok-a.was)

pub returns-then-k-eq0 : goal.returns-then-k-eq0
unfolding kind_in and_then counted_as span_as
returns-then-k-eq0 c =
    rw (← c.head_at.ensures.0, c.in_ok-a.was, ← c.kind_of-k.ensures, eq-eqb _ _ c.if-k-eq0.true)

pub returns : goal.returns
unfolding kind_in and_then counted_as span_as
returns c =
    rw (← c.head_at.ensures.0, c.in_ok-a.was, ← c.kind_of-k.ensures, ne_eqb _ _ c.if-k-eq0.false)
