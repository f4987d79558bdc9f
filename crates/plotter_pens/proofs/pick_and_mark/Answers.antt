use Rattle.plotter_pens.proofs.Answers.{yard-marked, lines-marked, picked-yard, picked-lines, picked_none, picked-refused}
use Rattle.std.proofs.Common.{ap, ◌∙◌, Ok, Some, arith}
use Rattle.plotter_pens.proofs.pick_and_mark.Goals as goal

pub bounds-marks-k : goal.bounds-marks-k
bounds-marks-k c =
    let a = c.in-Ok-Some-Yard in
    let i = rw a.is at a.field-0-is in
    yard-marked _ _ _ _ _ c.pick-p.ensures _ _ (a.is ∙ ap Ok (i ∙ ap Some (rw (a.is, i) at a.field-0-0-is)))

pub overflow_add-place : goal.overflow_add-place
overflow_add-place c =
    let a = c.in-Ok-Some-Lines in
    let i = rw a.is at a.field-0-is in
    omega (arith, lines-marked _ _ _ _ _ c.pick-p.ensures _ _ (a.is ∙ ap Ok (i ∙ ap Some (rw (a.is, i) at a.field-0-0-is))), c.well_formed)

pub bounds-marks-place : goal.bounds-marks-place
bounds-marks-place c =
    let a = c.in-Ok-Some-Lines in
    let i = rw a.is at a.field-0-is in
    lines-marked _ _ _ _ _ c.pick-p.ensures _ _ (a.is ∙ ap Ok (i ∙ ap Some (rw (a.is, i) at a.field-0-0-is)))

pub returns-in-Ok-Some-Yard : goal.returns-in-Ok-Some-Yard
returns-in-Ok-Some-Yard c =
    let a = c.in-Ok-Some-Yard in
    let i = rw a.is at a.field-0-is in
    picked-yard _ _ _ _ _ c.pick-p.ensures _ _ (a.is ∙ ap Ok (i ∙ ap Some (rw (a.is, i) at a.field-0-0-is)))

pub returns-in-Ok-Some-Lines : goal.returns-in-Ok-Some-Lines
returns-in-Ok-Some-Lines c =
    let a = c.in-Ok-Some-Lines in
    let i = rw a.is at a.field-0-is in
    picked-lines _ _ _ _ _ c.pick-p.ensures _ _ (a.is ∙ ap Ok (i ∙ ap Some (rw (a.is, i) at a.field-0-0-is)))

pub returns-in-Ok-None : goal.returns-in-Ok-None
returns-in-Ok-None c =
    let a = c.in-Ok-None in picked_none _ _ _ _ _ c.pick-p.ensures (a.is ∙ ap Ok (rw a.is at a.field-0-is))

pub returns-in-Err : goal.returns-in-Err
returns-in-Err c =
    picked-refused _ _ _ _ _ c.pick-p.ensures _ c.in-Err.is
