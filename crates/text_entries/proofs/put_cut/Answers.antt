use mathlib.Core.Path.{◌∙◌}
use Rattle.text_drawing.proofs.Adding.{writes-on}
use borrow.Author.Rules.{rules}
use Rattle.text_entries.proofs.put_cut.Goals as goal

pub put_word-a-requires : goal.put_word-a-requires
put_word-a-requires c =
    c.requires

pub put_count-b-requires : goal.put_count-b-requires
put_count-b-requires c =
    c.put_word-a.ensures.fits

pub put_byte-requires : goal.put_byte-requires
put_byte-requires c =
    c.put_count-b.ensures.fits

pub shape_of-text : goal.shape_of-text
shape_of-text c =
    c.put_byte.auto.text ∙ c.put_count-b.auto.text ∙ c.put_word-a.auto.text

pub returns : goal.returns
returns c =
    writes-on _ c.put_word-a.ensures c.put_word-a.auto.text (writes-on _ c.put_count-b.ensures c.put_count-b.auto.text c.put_byte.ensures)
