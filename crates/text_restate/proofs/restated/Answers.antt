use lib.ListN.{length}
use mathlib.Core.Path.{◌∙◌}
use Rattle.scene.specs.Scenes.{scene_of}
use Rattle.text_restate.proofs.Texts.{wrote-whole, number_put, wrote-there}
use borrow.Author.Rules.{rules}
use Rattle.text_restate.proofs.restated.Goals as goal

pub shape_of-out-in-Ok : goal.shape_of-out-in-Ok
shape_of-out-in-Ok c =
    c.write-c.auto.text

pub returns-in-Ok : goal.returns-in-Ok
returns-in-Ok c =
    let args = c.args in record { answer = (wrote-whole (scene_of args.numbers.now args.marks.now args.points.now args.starts.now args.owners.now) args.view (length args.out.now) c.write-c.ensures.answer c.in-Ok.is c.write-c.ensures.lent).0; lent = (wrote-whole (scene_of args.numbers.now args.marks.now args.points.now args.starts.now args.owners.now) args.view (length args.out.now) c.write-c.ensures.answer c.in-Ok.is c.write-c.ensures.lent).1 }

pub shape_of-out-in-Err : goal.shape_of-out-in-Err
shape_of-out-in-Err c =
    c.write_refused.auto.text ∙ c.write-c.auto.text

pub returns-in-Err : goal.returns-in-Err
returns-in-Err c =
    let args = c.args in record { answer = (wrote-there c.write-c.auto.text (number_put (scene_of args.numbers.now args.marks.now args.points.now args.starts.now args.owners.now) args.view (length args.out.now) c.write-c.ensures.answer c.in-Err.is c.number.ensures) (c.write_refused.ensures.answer, c.write_refused.ensures.lent)).0; lent = (wrote-there c.write-c.auto.text (number_put (scene_of args.numbers.now args.marks.now args.points.now args.starts.now args.owners.now) args.view (length args.out.now) c.write-c.ensures.answer c.in-Err.is c.number.ensures) (c.write_refused.ensures.answer, c.write_refused.ensures.lent)).1 }
