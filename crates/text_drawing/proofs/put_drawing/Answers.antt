use mathlib.Core.Path.{◌∙◌}
use Rattle.text_drawing.proofs.Ends.{within_none}
use Rattle.text_drawing.proofs.Texts.{drawing-put}
use Rattle.text_drawing.proofs.put_drawing.Goals as goal

pub put_word-c-requires : goal.put_word-c-requires
put_word-c-requires c =
    within_none _

pub put_decimal-d-requires : goal.put_decimal-d-requires
put_decimal-d-requires c =
    c.put_word-c.ensures.fits

pub put_word-e-requires : goal.put_word-e-requires
put_word-e-requires c =
    c.put_decimal-d.ensures.fits

pub put_paths-requires : goal.put_paths-requires
put_paths-requires c =
    c.put_word-e.ensures.fits

pub shape_of-text : goal.shape_of-text
shape_of-text c =
    c.put_paths.auto.text ∙ c.put_word-e.auto.text ∙ c.put_decimal-d.auto.text ∙ c.put_word-c.auto.text

pub returns : goal.returns
returns c =
    drawing-put (within_none _) _ _ c.put_word-c.ensures c.put_word-c.auto.text c.put_decimal-d.ensures c.put_decimal-d.auto.text c.put_word-e.ensures c.put_word-e.auto.text c.put_paths.ensures c.put_paths.auto.text
