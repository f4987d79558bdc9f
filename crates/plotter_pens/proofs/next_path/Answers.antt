use Rattle.plotter_pens.proofs.Answers.{yard-fits, lines_fit, handed-yard, handed-lines, handed-none, handed-refused}
use Rattle.std.proofs.Common.{ap, ◌∙◌, Ok, Some}
use Rattle.plotter_pens.proofs.next_path.Goals as goal

pub part-requires : goal.part-requires
part-requires c =
    let a = c.in-Ok-Some-Yard in
    let i = rw a.is at a.field-0-is in
    yard-fits _ _ _ _ _ c.pick_and_mark-p.ensures.answer _ _ (a.is ∙ ap Ok (i ∙ ap Some (rw (a.is, i) at a.field-0-0-is)))

pub part-requires-in-Ok-Some-Lines : goal.part-requires-in-Ok-Some-Lines
part-requires-in-Ok-Some-Lines c =
    let a = c.in-Ok-Some-Lines in
    let i = rw a.is at a.field-0-is in
    lines_fit _ _ _ _ _ c.pick_and_mark-p.ensures.answer _ _ (a.is ∙ ap Ok (i ∙ ap Some (rw (a.is, i) at a.field-0-0-is)))

pub returns-in-Ok-Some-Yard : goal.returns-in-Ok-Some-Yard
returns-in-Ok-Some-Yard c =
    let a = c.in-Ok-Some-Yard in
    let i = rw a.is at a.field-0-is in
    handed-yard _ _ _ _ _ _ c.pick_and_mark-p.ensures _ c.pick_number.ensures _ _ (a.is ∙ ap Ok (i ∙ ap Some (rw (a.is, i) at a.field-0-0-is))) _ c.part.ensures

pub returns-in-Ok-Some-Lines : goal.returns-in-Ok-Some-Lines
returns-in-Ok-Some-Lines c =
    let a = c.in-Ok-Some-Lines in
    let i = rw a.is at a.field-0-is in
    handed-lines _ _ _ _ _ _ c.pick_and_mark-p.ensures _ c.pick_number.ensures _ _ (a.is ∙ ap Ok (i ∙ ap Some (rw (a.is, i) at a.field-0-0-is))) _ c.part-in-Ok-Some-Lines.ensures

pub returns-in-Ok-None : goal.returns-in-Ok-None
returns-in-Ok-None c =
    let a = c.in-Ok-None in
    handed-none _ _ _ _ _ _ c.pick_and_mark-p.ensures _ c.pick_number.ensures (a.is ∙ ap Ok (rw a.is at a.field-0-is))

pub returns-in-Err : goal.returns-in-Err
returns-in-Err c =
    handed-refused _ _ _ _ _ _ c.pick_and_mark-p.ensures _ c.pick_number.ensures _ c.in-Err.is
