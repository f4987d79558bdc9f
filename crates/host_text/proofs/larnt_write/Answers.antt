use lib.ListN.{length}
use Rattle.scene.specs.Scenes.{scene_of}
use Rattle.host_text.proofs.TextLaws.{write-told}
use Rattle.host_text.proofs.larnt_write.Goals as goal

pub returns : goal.returns
returns c =
    let args = c.args in write-told (length args.text.now) (scene_of args.numbers.now args.marks.now args.points.now args.starts.now args.owners.now) c.view_from-v.ensures c.write-c.ensures.answer c.write-c.ensures.lent c.answer_number.ensures c.byte_count.ensures
