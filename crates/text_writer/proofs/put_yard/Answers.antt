use mathlib.Core.Path.{◌∙◌}
use Rattle.text_drawing.proofs.Ends.{within_none}
use Rattle.text_writer.proofs.Yards.{yard-put}
use Rattle.text_writer.proofs.put_yard.Goals as goal

pub put_view-c-requires : goal.put_view-c-requires
put_view-c-requires c =
    within_none _

pub put_forms-requires : goal.put_forms-requires
put_forms-requires c =
    let pre = c.requires in (c.put_view-c.ensures.fits, pre)

pub shape_of-text : goal.shape_of-text
shape_of-text c =
    c.put_forms.auto.text ∙ c.put_view-c.auto.text

pub returns : goal.returns
returns c =
    let args = c.args in yard-put args.view _ c.put_view-c.ensures c.put_view-c.auto.text c.put_forms.ensures
