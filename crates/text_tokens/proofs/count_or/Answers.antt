use Rattle.text_tokens.specs.Tokens.{count_or}
use Rattle.text_tokens.specs.Seen.{seen, counted_as}
use mathlib.Core.Path.{◌∙◌}
use Rattle.text_tokens.proofs.count_or.Goals as goal

pub returns-in-Some-Word : goal.returns-in-Some-Word
unfolding seen count_or
returns-in-Some-Word c =
    c.count_at.ensures ∙ rw (← c.token.ensures.0, c.in-Some-Word.is, c.in-Some-Word.field-0-is)

pub returns-in-Some-Opens : goal.returns-in-Some-Opens
unfolding seen count_or counted_as
returns-in-Some-Opens c =
    rw (← c.token.ensures.0, c.in-Some-Opens.is, c.in-Some-Opens.field-0-is)

pub returns-in-Some-Closes : goal.returns-in-Some-Closes
unfolding seen count_or counted_as
returns-in-Some-Closes c =
    rw (← c.token.ensures.0, c.in-Some-Closes.is, c.in-Some-Closes.field-0-is)

pub returns-in-None : goal.returns-in-None
unfolding seen count_or counted_as
returns-in-None c =
    rw (← c.token.ensures.0, c.in-None.is)
