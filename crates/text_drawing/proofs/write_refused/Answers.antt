use mathlib.Core.Path.{◌∙◌}
use Rattle.text_drawing.proofs.Ends.{all-answered, all_laid}
use Rattle.text_drawing.proofs.write_refused.Goals as goal

pub finish-requires : goal.finish-requires
finish-requires c =
    c.put_refused-d.ensures.fits

pub shape_of-text : goal.shape_of-text
shape_of-text c =
    c.finish.auto.text ∙ c.put_refused-d.auto.text

pub returns : goal.returns
returns c =
    record { answer = all-answered c.put_refused-d.ensures c.put_refused-d.auto.text c.finish.ensures.answer c.finish.ensures.lent; lent = all_laid c.put_refused-d.ensures c.put_refused-d.auto.text c.finish.ensures.answer c.finish.ensures.lent }
