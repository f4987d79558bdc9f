use Rattle.text_heads.specs.Heads.{head_in}
use Rattle.text_tokens.specs.Seen.{step_as, span_as, WordWithin}
use Rattle.text_tokens.specs.Tokens.{and_then}
use Rattle.text_heads.proofs.head_at.Goals as goal

pub returns-in_err-i : goal.returns-in_err-i
unfolding head_in and_then step_as span_as WordWithin
returns-in_err-i c =
    rw c.from_residual.ensures (rw (← c.open_at.ensures, c.in_err-i.was), tt)

pub returns : goal.returns
unfolding head_in and_then step_as
returns c =
    (rw (← c.open_at.ensures, c.in_ok-i.was) c.word_at.ensures.0, c.word_at.ensures.1)
