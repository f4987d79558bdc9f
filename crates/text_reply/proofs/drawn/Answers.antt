use lib.ListN.{length}
use Rattle.scene.specs.Scenes.{scene_of}
use Rattle.text_reply.proofs.Places.{drawn-wrote}
use borrow.Author.Rules.{rules}
use Rattle.text_reply.proofs.drawn.Goals as goal

pub returns : goal.returns
returns c =
    let args = c.args in record { answer = (drawn-wrote (scene_of args.numbers.now args.marks.now args.points.now args.starts.now args.owners.now) args.view _ _ _ _ c.draw_with-c.ensures.finished (length args.text.now) _ _ (c.write_drawing.ensures.answer, c.write_drawing.ensures.lent)).0; lent = (drawn-wrote (scene_of args.numbers.now args.marks.now args.points.now args.starts.now args.owners.now) args.view _ _ _ _ c.draw_with-c.ensures.finished (length args.text.now) _ _ (c.write_drawing.ensures.answer, c.write_drawing.ensures.lent)).1 }
