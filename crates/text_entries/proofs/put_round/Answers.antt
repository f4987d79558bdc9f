use mathlib.Core.Path.{◌∙◌}
use Rattle.text_canonical.specs.Canonical.{form_text}
use Rattle.text_drawing.proofs.Adding.{writes-on}
use borrow.Author.Rules.{rules}
use Rattle.text_entries.proofs.put_round.Goals as goal

pub put_round_word-a-requires : goal.put_round_word-a-requires
put_round_word-a-requires c =
    let pre = c.requires in pre

pub put_numbers-b-requires : goal.put_numbers-b-requires
put_numbers-b-requires c =
    c.put_round_word-a.ensures.fits

pub put_stripes-d-requires : goal.put_stripes-d-requires
put_stripes-d-requires c =
    c.put_numbers-b.ensures.fits

pub put_lines-e-requires : goal.put_lines-e-requires
put_lines-e-requires c =
    c.put_stripes-d.ensures.fits

pub put_byte-requires : goal.put_byte-requires
put_byte-requires c =
    c.put_lines-e.ensures.fits

pub shape_of-text : goal.shape_of-text
shape_of-text c =
    c.put_byte.auto.text ∙ c.put_lines-e.auto.text ∙ c.put_stripes-d.auto.text ∙ c.put_numbers-b.auto.text ∙ c.put_round_word-a.auto.text

pub returns : goal.returns
unfolding form_text
returns c =
    writes-on _ c.put_round_word-a.ensures c.put_round_word-a.auto.text (writes-on _ c.put_numbers-b.ensures c.put_numbers-b.auto.text (writes-on _ c.put_stripes-d.ensures c.put_stripes-d.auto.text (writes-on _ c.put_lines-e.ensures c.put_lines-e.auto.text c.put_byte.ensures)))
