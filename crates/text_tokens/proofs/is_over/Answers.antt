use Rattle.text_tokens.proofs.Tokens.{none_over}
use Rattle.text_tokens.proofs.is_over.Goals as goal

pub returns : goal.returns
returns c =
    rw (← c.token.ensures.0) (none_over _ _ _ c.is_none.ensures)
