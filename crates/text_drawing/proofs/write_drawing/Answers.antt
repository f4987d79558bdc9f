use mathlib.Core.Path.{◌∙◌}
use Rattle.text_drawing.proofs.Ends.{all-answered, all_laid}
use Rattle.text_drawing.proofs.write_drawing.Goals as goal

pub finish-requires : goal.finish-requires
finish-requires c =
    c.put_text-d.ensures.fits

pub shape_of-text : goal.shape_of-text
shape_of-text c =
    c.finish.auto.text ∙ c.put_text-d.auto.text

pub returns : goal.returns
returns c =
    record { answer = all-answered c.put_text-d.ensures c.put_text-d.auto.text c.finish.ensures.answer c.finish.ensures.lent; lent = all_laid c.put_text-d.ensures c.put_text-d.auto.text c.finish.ensures.answer c.finish.ensures.lent }
