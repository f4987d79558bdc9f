use mathlib.Core.Path.{◌∙◌}
use Rattle.text_drawing.proofs.Texts.{path-put}
use Rattle.text_drawing.proofs.put_path.Goals as goal

pub put_word-d-requires : goal.put_word-d-requires
put_word-d-requires c =
    let pre = c.requires in pre.0

pub put_points-e-requires : goal.put_points-e-requires
put_points-e-requires c =
    let pre = c.requires in (c.put_word-d.ensures.fits, pre.1, pre.2)

pub put_word-requires : goal.put_word-requires
put_word-requires c =
    c.put_points-e.ensures.fits

pub shape_of-text : goal.shape_of-text
shape_of-text c =
    c.put_word.auto.text ∙ c.put_points-e.auto.text ∙ c.put_word-d.auto.text

pub returns : goal.returns
returns c =
    let pre = c.requires in path-put pre.0 _ c.put_word-d.ensures c.put_word-d.auto.text c.put_points-e.ensures c.put_points-e.auto.text c.put_word.ensures c.put_word.auto.text
