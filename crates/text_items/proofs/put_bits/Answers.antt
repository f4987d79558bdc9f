use mathlib.Core.Path.{◌∙◌}
use Rattle.text_items.proofs.Items.{hex-put}
use borrow.Author.Rules.{rules}
use Rattle.text_items.proofs.put_bits.Goals as goal

pub put_byte-d-requires : goal.put_byte-d-requires
put_byte-d-requires c =
    c.requires

pub put_byte-e-requires : goal.put_byte-e-requires
put_byte-e-requires c =
    c.put_byte-d.ensures.fits

pub put_hex-requires : goal.put_hex-requires
put_hex-requires c =
    c.put_byte-e.ensures.fits

pub shape_of-text : goal.shape_of-text
shape_of-text c =
    c.put_hex.auto.text ∙ c.put_byte-e.auto.text ∙ c.put_byte-d.auto.text

pub returns : goal.returns
returns c =
    hex-put _ _ c.put_byte-d.ensures c.put_byte-d.auto.text c.put_byte-e.ensures c.put_byte-e.auto.text c.pattern_of.ensures c.put_hex.ensures
