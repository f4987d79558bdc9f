use mathlib.Core.Path.{◌∙◌}
use Rattle.text_items.proofs.Items.{count-put}
use borrow.Author.Rules.{rules}
use Rattle.text_items.proofs.put_count.Goals as goal

pub put_byte-d-requires : goal.put_byte-d-requires
put_byte-d-requires c =
    c.requires

pub put_decimal-requires : goal.put_decimal-requires
put_decimal-requires c =
    c.put_byte-d.ensures.fits

pub shape_of-text : goal.shape_of-text
shape_of-text c =
    c.put_decimal.auto.text ∙ c.put_byte-d.auto.text

pub returns : goal.returns
returns c =
    count-put _ c.put_byte-d.ensures c.put_byte-d.auto.text c.put_decimal.ensures
