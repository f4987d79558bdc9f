use Rattle.text_tokens.specs.Tokens.{close_in}
use Rattle.text_tokens.specs.Seen.{seen, step_as}
use Rattle.text_tokens.proofs.close_at.Goals as goal

pub returns-in-Closes : goal.returns-in-Closes
unfolding seen step_as close_in
returns-in-Closes c =
    rw (← c.token.ensures.0, c.in_ok-n.was, c.in-Closes.is)

pub returns-in-Opens : goal.returns-in-Opens
unfolding seen step_as close_in
returns-in-Opens c =
    rw (← c.token.ensures.0, c.in_ok-n.was, c.in-Opens.is)

pub returns-in-Word : goal.returns-in-Word
unfolding seen step_as close_in
returns-in-Word c =
    rw (← c.token.ensures.0, c.in_ok-n.was, c.in-Word.is)

pub returns-in_err-n : goal.returns-in_err-n
unfolding seen step_as close_in
returns-in_err-n c =
    rw (c.from_residual.ensures, ← c.token.ensures.0, c.in_err-n.was)
