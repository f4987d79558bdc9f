use Rattle.text_tokens.proofs.Tokens.{inside-word}
use Rattle.text_tokens.specs.Tokens.{word_in}
use Rattle.text_tokens.specs.Seen.{seen, span_as, WordWithin}
use Rattle.text_tokens.proofs.word_at.Goals as goal

pub returns-in-Word : goal.returns-in-Word
unfolding seen span_as word_in WordWithin
returns-in-Word c =
    (rw (← c.token.ensures.0, c.in_ok-a.was, c.in-Word.is), inside-word _ c.token.ensures.1 (rw c.in-Word.is at c.in_ok-a.was))

pub returns-in-Opens : goal.returns-in-Opens
unfolding seen span_as word_in WordWithin
returns-in-Opens c =
    (rw (← c.token.ensures.0, c.in_ok-a.was, c.in-Opens.is), tt)

pub returns-in-Closes : goal.returns-in-Closes
unfolding seen span_as word_in WordWithin
returns-in-Closes c =
    (rw (← c.token.ensures.0, c.in_ok-a.was, c.in-Closes.is), tt)

pub returns-in_err-a : goal.returns-in_err-a
unfolding seen span_as word_in WordWithin
returns-in_err-a c =
    rw c.from_residual.ensures (rw (← c.token.ensures.0, c.in_err-a.was), tt)
