use mathlib.Core.Path.{◌∙◌}
use Rattle.text_drawing.proofs.Ends.{within_none}
use Rattle.text_drawing.proofs.Texts.{refused-put}
use Rattle.text_drawing.proofs.put_refused.Goals as goal

pub put_word-c-requires : goal.put_word-c-requires
put_word-c-requires c =
    within_none _

pub put_decimal-d-requires : goal.put_decimal-d-requires
put_decimal-d-requires c =
    c.put_word-c.ensures.fits

pub put_word-requires : goal.put_word-requires
put_word-requires c =
    c.put_decimal-d.ensures.fits

pub shape_of-text : goal.shape_of-text
shape_of-text c =
    c.put_word.auto.text ∙ c.put_decimal-d.auto.text ∙ c.put_word-c.auto.text

pub returns : goal.returns
returns c =
    refused-put (within_none _) _ c.put_word-c.ensures c.put_word-c.auto.text c.put_decimal-d.ensures c.put_decimal-d.auto.text c.put_word.ensures c.put_word.auto.text
