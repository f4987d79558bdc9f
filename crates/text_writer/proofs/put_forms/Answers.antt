use Rattle.scene.specs.Scenes.{scene_of}
use Rattle.lists.proofs.Properties.{each_at}
use Rattle.text_canonical.specs.Forms.{form_at}
use Rattle.text_entries.specs.Entries.{Formed}
use Rattle.text_drawing.proofs.Adding.{writing_start}
use Rattle.text_writer.proofs.Yards.{lines-turn, lines_end}
use Rattle.text_writer.proofs.Written.{formed-as}
use Rattle.text_writer.proofs.put_forms.Goals as goal

pub loop-k-init : goal.loop-k-init
loop-k-init c =
    let pre = c.requires in writing_start pre.0

pub put_form-e-requires : goal.put_form-e-requires
put_form-e-requires c =
    let args = c.args in let pre = c.requires in (c.loop-k.invariant.fits, formed-as args.numbers.now args.marks.now c.index-i.ensures.0 (each_at (Formed args.numbers.now args.marks.now) args.listed.now c.loop-k.k pre.1 c.loop-k-test.true))

pub put_byte-d-requires : goal.put_byte-d-requires
put_byte-d-requires c =
    c.put_form-e.ensures.fits

pub loop-k-preserved : goal.loop-k-preserved
loop-k-preserved c =
    let args = c.args in lines-turn (form_at 8 (scene_of args.numbers.now args.marks.now args.points.now args.starts.now args.owners.now)) args.listed.now c.loop-k.k c.loop-k-test.true c.index-i.ensures.0 c.loop-k.invariant c.put_form-e.ensures c.put_form-e.auto.text c.put_byte-d.ensures c.put_byte-d.auto.text

pub shape_of-text : goal.shape_of-text
shape_of-text c =
    c.loop-k.invariant.same

pub returns : goal.returns
returns c =
    let args = c.args in lines_end (form_at 8 (scene_of args.numbers.now args.marks.now args.points.now args.starts.now args.owners.now)) args.listed.now c.loop-k.k c.loop-k-test.false c.loop-k.invariant
