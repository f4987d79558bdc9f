use mathlib.Core.Path.{◌∙◌}
use Rattle.text_drawing.proofs.Texts.{point-put}
use Rattle.text_drawing.proofs.put_point.Goals as goal

pub put_byte-d-requires : goal.put_byte-d-requires
put_byte-d-requires c =
    c.requires

pub put_number-x-requires : goal.put_number-x-requires
put_number-x-requires c =
    c.put_byte-d.ensures.fits

pub put_number-y-requires : goal.put_number-y-requires
put_number-y-requires c =
    c.put_number-x.ensures.fits

pub put_number-z-requires : goal.put_number-z-requires
put_number-z-requires c =
    c.put_number-y.ensures.fits

pub put_byte-requires : goal.put_byte-requires
put_byte-requires c =
    c.put_number-z.ensures.fits

pub shape_of-text : goal.shape_of-text
shape_of-text c =
    c.put_byte.auto.text ∙ c.put_number-z.auto.text ∙ c.put_number-y.auto.text ∙ c.put_number-x.auto.text ∙ c.put_byte-d.auto.text

pub returns : goal.returns
returns c =
    let pre = c.requires in point-put (pre) _ c.put_byte-d.ensures c.put_byte-d.auto.text c.put_number-x.ensures c.put_number-x.auto.text c.put_number-y.ensures c.put_number-y.auto.text c.put_number-z.ensures c.put_number-z.auto.text c.put_byte.ensures c.put_byte.auto.text
