use mathlib.Core.Path.{ap, ◌∙◌}
use native.Mathlib.Omega.{arith}
use Rattle.scene.specs.Scenes.{scene_of}
use Rattle.text_canonical.specs.Forms.{form_at}
use Rattle.text_canonical.specs.Canonical.{form_text}
use Rattle.text_drawing.proofs.Adding.{writes_as}
use Rattle.text_entries.proofs.Forms.{row_is, row-long, form-none, opens-so, placed-so, cut-so, placed-formed, first-formed, second-formed}
use Rattle.text_entries.proofs.Puts.{placed-put, cut-put, none-put}
use Prim.Native.Nat.{ℕ, ◌-◌, ◌<◌}
use Rattle.text_entries.proofs.+put_form.Goals as goal

pub returns-then-depth-eq0 : goal.returns-then-depth-eq0
returns-then-depth-eq0 t c =
    let args = c.args in
    writes_as (ap form_text (form-none _ (scene_of args.numbers.now args.marks.now args.points.now args.starts.now args.owners.now) _ c.if-depth-eq0.true)) (none-put c.requires.0)

pub put_place-a-requires : goal.put_place-a-requires
put_place-a-requires t c = c.requires.0

pub put_form-b-requires : goal.put_form-b-requires
put_form-b-requires t c =
    (omega (arith, c.if-depth-eq0.false), (c.put_place-a.ensures.fits, placed-formed _ _ _ c.requires.1 c.read_marks-m.ensures c.if-m-eq6.true c.index-p.ensures.0))

pub put_byte-requires : goal.put_byte-requires
put_byte-requires t c = c.put_form-b.ensures.fits

pub returns-then-m-eq6 : goal.returns-then-m-eq6
returns-then-m-eq6 t c =
    let args = c.args in
    writes_as (ap form_text (placed-so _ (scene_of args.numbers.now args.marks.now args.points.now args.starts.now args.owners.now) args.i c.if-depth-eq0.false c.read_marks-m.ensures c.if-m-eq6.true c.index-p.ensures.0 (row_is args.i args.numbers.now))) (placed-put _ _ c.put_place-a.ensures c.put_place-a.auto.text c.put_form-b.ensures c.put_form-b.auto.text c.put_byte.ensures)

pub put_cut-a-requires : goal.put_cut-a-requires
put_cut-a-requires t c = c.requires.0

pub put_form-b-requires-then-m-eq7 : goal.put_form-b-requires-then-m-eq7
put_form-b-requires-then-m-eq7 t c =
    (omega (arith, c.if-depth-eq0.false), (c.put_cut-a.ensures.fits, first-formed _ _ _ c.requires.1 c.read_marks-m.ensures c.if-m-eq7.true c.index-first.ensures.0))

pub put_byte-d-requires : goal.put_byte-d-requires
put_byte-d-requires t c = c.put_form-b-then-m-eq7.ensures.fits

pub put_form-e-requires : goal.put_form-e-requires
put_form-e-requires t c =
    (omega (arith, c.if-depth-eq0.false), (c.put_byte-d.ensures.fits, second-formed _ _ _ c.requires.1 c.read_marks-m.ensures c.if-m-eq7.true c.index-second.ensures.0))

pub put_byte-requires-then-m-eq7 : goal.put_byte-requires-then-m-eq7
put_byte-requires-then-m-eq7 t c = c.put_form-e.ensures.fits

pub returns-then-m-eq7 : goal.returns-then-m-eq7
returns-then-m-eq7 t c =
    let args = c.args in
    writes_as (ap form_text (cut-so _ (scene_of args.numbers.now args.marks.now args.points.now args.starts.now args.owners.now) args.i c.if-depth-eq0.false c.read_marks-m.ensures c.if-m-eq7.true c.index-first.ensures.0 c.index-second.ensures.0)) (cut-put _ _ _ c.put_cut-a.ensures c.put_cut-a.auto.text c.put_form-b-then-m-eq7.ensures c.put_form-b-then-m-eq7.auto.text c.put_byte-d.ensures c.put_byte-d.auto.text c.put_form-e.ensures c.put_form-e.auto.text c.put_byte-then-m-eq7.ensures)

pub put_simple-requires : goal.put_simple-requires
put_simple-requires t c =
    (c.requires.0, (row-long c.args.i c.args.numbers.now (omega (arith, c.requires.1.there, c.requires.1.numbers)), (c.if-m-eq6.false, c.if-m-eq7.false)))

pub returns : goal.returns
returns t c =
    let args = c.args in
    writes_as (ap form_text (opens-so _ (scene_of args.numbers.now args.marks.now args.points.now args.starts.now args.owners.now) args.i c.if-depth-eq0.false c.read_marks-m.ensures (row_is args.i args.numbers.now))) (c.put_simple.ensures (form_at (args.depth - 1) (scene_of args.numbers.now args.marks.now args.points.now args.starts.now args.owners.now)))
