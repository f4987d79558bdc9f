use mathlib.Core.Path.{◌∙◌}
use Rattle.text_drawing.proofs.Ends.{refused-answered, refused-laid, at-answered, at-laid}
use Rattle.text_drawing.proofs.finish.Goals as goal

pub clear-requires-in-Ok : goal.clear-requires-in-Ok
clear-requires-in-Ok c =
    let pre = c.requires in pre _ c.in-Ok.is

pub shape_of-text-in-Err : goal.shape_of-text-in-Err
shape_of-text-in-Err c =
    c.clear.auto.text

pub returns-in-Err : goal.returns-in-Err
returns-in-Err c =
    let args = c.args in record { answer = refused-answered args.text.now args.c c.in-Err.is; lent = c.clear.ensures ∙ refused-laid args.text.now args.c c.in-Err.is }

pub shape_of-text-in-Ok : goal.shape_of-text-in-Ok
shape_of-text-in-Ok c =
    c.clear-in-Ok.auto.text

pub returns-in-Ok : goal.returns-in-Ok
returns-in-Ok c =
    let args = c.args in let pre = c.requires in record { answer = at-answered args.text.now args.c c.in-Ok.is (pre _ c.in-Ok.is); lent = c.clear-in-Ok.ensures ∙ at-laid args.text.now args.c c.in-Ok.is (pre _ c.in-Ok.is) }
