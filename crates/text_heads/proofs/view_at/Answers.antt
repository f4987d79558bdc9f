use Rattle.text_heads.proofs.Numbers.{view-short, view-open, view-seen}
use Rattle.text_heads.specs.Cursors.{viewed_as}
use Rattle.text_heads.specs.Heads.{view_in}
use Rattle.text_tokens.specs.Seen.{step_as}
use Rattle.text_tokens.specs.Tokens.{and_then}
use Rattle.text_heads.proofs.view_at.Goals as goal

pub returns-in_err-i : goal.returns-in_err-i
unfolding viewed_as view_in and_then step_as
returns-in_err-i c =
    rw (c.from_residual.ensures, ← c.named_at.ensures, c.in_err-i.was)

pub returns-in_err-j : goal.returns-in_err-j
returns-in_err-j c =
    rw c.from_residual-in_err-j.ensures (view-short _ _ c.named_at.ensures c.in_ok-i.was _ c.numbers_at.ensures.result_after c.in_err-j.was)

pub returns-in_err-k : goal.returns-in_err-k
returns-in_err-k c =
    rw c.from_residual-in_err-k.ensures (view-open _ _ c.named_at.ensures c.in_ok-i.was _ c.numbers_at.ensures.result_after c.in_ok-j.was c.close_at.ensures c.in_err-k.was)

pub view_of-requires : goal.view_of-requires
view_of-requires c =
    c.numbers_at.auto.row

pub returns : goal.returns
returns c =
    view-seen _ _ c.named_at.ensures c.in_ok-i.was _ c.numbers_at.ensures.result_after c.in_ok-j.was c.close_at.ensures c.numbers_at.auto.row c.in_ok-k.was c.view_of.ensures
