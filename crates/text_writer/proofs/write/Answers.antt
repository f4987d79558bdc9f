use mathlib.Core.Path.{◌∙◌}
use Rattle.text_writer.proofs.Written.{ends_so}
use Rattle.text_writer.proofs.write.Goals as goal

pub finish-requires : goal.finish-requires
finish-requires c =
    c.put_checked-c.ensures.1

pub shape_of-text : goal.shape_of-text
shape_of-text c =
    c.finish.auto.text ∙ c.put_checked-c.auto.text

pub returns : goal.returns
returns c =
    record { answer = (ends_so c.put_checked-c.result c.put_checked-c.new.text c.put_checked-c.ensures.0 c.put_checked-c.auto.text c.finish.ensures.answer c.finish.ensures.lent).0; lent = (ends_so c.put_checked-c.result c.put_checked-c.new.text c.put_checked-c.ensures.0 c.put_checked-c.auto.text c.finish.ensures.answer c.finish.ensures.lent).1 }
