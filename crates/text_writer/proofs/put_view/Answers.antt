use mathlib.Core.Path.{◌∙◌}
use Rattle.scene.specs.Entries.{matrix_numbers}
use Rattle.text_writer.proofs.Yards.{view-put}
use Rattle.text_writer.proofs.put_view.Goals as goal

pub put_word-a-requires : goal.put_word-a-requires
put_word-a-requires c =
    let pre = c.requires in pre

pub put_numbers-b-requires : goal.put_numbers-b-requires
put_numbers-b-requires c =
    c.put_word-a.ensures.fits

pub put_word-requires : goal.put_word-requires
put_word-requires c =
    c.put_numbers-b.ensures.fits

pub shape_of-text : goal.shape_of-text
shape_of-text c =
    c.put_word.auto.text ∙ c.put_numbers-b.auto.text ∙ c.put_word-a.auto.text

pub returns : goal.returns
unfolding matrix_numbers
returns c =
    let args = c.args in view-put args.view c.put_word-a.ensures c.put_word-a.auto.text c.put_numbers-b.ensures c.put_numbers-b.auto.text c.put_word.ensures
