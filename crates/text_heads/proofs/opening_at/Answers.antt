use Rattle.text_heads.proofs.Numbers.{opening-undetailed, opening-short, opening-miscounted, opening_of}
use Rattle.text_heads.specs.Cursors.{opened_as}
use Rattle.text_heads.specs.Heads.{opening_in}
use Rattle.text_tokens.specs.Seen.{counted_as}
use Rattle.text_tokens.specs.Tokens.{and_then}
use Rattle.text_heads.proofs.opening_at.Goals as goal

pub returns-in_err-kind : goal.returns-in_err-kind
unfolding opened_as opening_in and_then counted_as
returns-in_err-kind c =
    rw (c.from_residual.ensures, ← c.kind_at.ensures, c.in_err-kind.was)

pub returns-in_err-detail : goal.returns-in_err-detail
returns-in_err-detail c =
    rw c.from_residual-in_err-detail.ensures (opening-undetailed _ _ c.kind_at.ensures c.in_ok-kind.was c.detail_at.ensures c.in_err-detail.was)

pub numbers_at-requires : goal.numbers_at-requires
numbers_at-requires c =
    c.measures.ensures.1

pub returns-in_err-k : goal.returns-in_err-k
returns-in_err-k c =
    rw c.from_residual-in_err-k.ensures (opening-short _ _ c.kind_at.ensures c.in_ok-kind.was c.detail_at.ensures c.in_ok-detail.was c.measures.ensures.0 _ c.numbers_at.ensures.result_after c.in_err-k.was)

pub returns-in_err-stripes : goal.returns-in_err-stripes
returns-in_err-stripes c =
    rw c.from_residual-in_err-stripes.ensures (opening-miscounted _ _ c.kind_at.ensures c.in_ok-kind.was c.detail_at.ensures c.in_ok-detail.was c.measures.ensures.0 _ c.numbers_at.ensures.result_after c.in_ok-k.was c.stripes_at.ensures c.in_err-stripes.was)

pub returns : goal.returns
returns c =
    opening_of _ _ c.kind_at.ensures c.in_ok-kind.was c.detail_at.ensures c.in_ok-detail.was c.measures.ensures.0 _ c.numbers_at.ensures.result_after c.in_ok-k.was c.stripes_at.ensures c.measures.ensures.1 c.numbers_at.auto.row c.numbers_at.ensures.row_unchanged c.in_ok-stripes.was c.read_numbers-row.ensures
