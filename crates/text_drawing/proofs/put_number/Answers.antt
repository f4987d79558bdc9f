use mathlib.Core.Path.{◌∙◌}
use Rattle.text_drawing.proofs.Texts.{number_put}
use Rattle.text_drawing.proofs.put_number.Goals as goal

pub put_byte-d-requires : goal.put_byte-d-requires
put_byte-d-requires c =
    c.requires

pub put_byte-e-requires : goal.put_byte-e-requires
put_byte-e-requires c =
    c.put_byte-d.ensures.fits

pub put_hex-requires : goal.put_hex-requires
put_hex-requires c =
    c.put_byte-e.ensures.fits

pub shape_of-text : goal.shape_of-text
shape_of-text c =
    c.put_hex.auto.text ∙ c.put_byte-e.auto.text ∙ c.put_byte-d.auto.text

pub returns : goal.returns
returns c =
    let pre = c.requires in number_put (pre) _ _ _ c.put_byte-d.ensures c.put_byte-d.auto.text c.put_byte-e.ensures c.put_byte-e.auto.text c.bits_of.ensures c.put_hex.ensures c.put_hex.auto.text
