use Rattle.text_drawing.proofs.Adding.{writing_start, word-turn, word_end}
use Rattle.text_drawing.proofs.put_word.Goals as goal

pub loop-i-init : goal.loop-i-init
loop-i-init c =
    writing_start c.requires

pub put_byte-d-requires : goal.put_byte-d-requires
put_byte-d-requires c =
    c.loop-i.invariant.fits

pub loop-i-preserved : goal.loop-i-preserved
loop-i-preserved c =
    word-turn _ c.loop-i-test.true c.loop-i.invariant c.put_byte-d.ensures c.put_byte-d.auto.text

pub shape_of-text : goal.shape_of-text
shape_of-text c =
    c.loop-i.invariant.same

pub returns : goal.returns
returns c =
    word_end _ c.loop-i-test.false c.loop-i.invariant
