use Rattle.std.proofs.Common.{ap, sym, ◌∙◌, arith, ◌<◌}
use Rattle.scene.proofs.Parts.{entry-none, entry-simple, entry-parts, numbers_fit, inverse-fits, marks-fit}
use Rattle.solids.specs.Solids.{hit_of}
use Rattle.scene_shape.proofs.Shapes.{decode_is, falls_below, met-below, met-hit, cut-refused, cut-missed, cut_inside, cut-spent, cut_again}
use Rattle.scene_shape.specs.Shapes.{read, shape_of, shape_hit}
use Rattle.std.specs.Prelude.{Ok, Err, Some}
use Rattle.std.proofs.lemmas.Result.{err_from_is_err_and}
use Rattle.scene_shape.proofs.+hit.Goals as goal

pub cut_hit-returns-then-not-is_ok : goal.cut_hit-returns-then-not-is_ok
cut_hit-returns-then-not-is_ok t c =
    c.by_fields.ensures ∙ cut-missed _ _ _ _ _ _ _ (c.entry_hit-ha.ensures ∙ ap (shape_hit _) c.again.ensures) (c.entry_hit-hb.ensures ∙ ap (shape_hit _) c.again-2.ensures) c.both.ensures c.in_ok-h.was c.is_ok.ensures c.if-not-is_ok.true c.tell_of.ensures

pub cut_hit-returns-then-cut_contains : goal.cut_hit-returns-then-cut_contains
cut_hit-returns-then-cut_contains t c =
    c.by_fields-then-cut_contains.ensures ∙ cut_inside _ _ _ _ _ _ _ (c.entry_hit-ha.ensures ∙ ap (shape_hit _) c.again.ensures) (c.entry_hit-hb.ensures ∙ ap (shape_hit _) c.again-2.ensures) c.both.ensures c.in_ok-h.was c.is_ok.ensures c.if-not-is_ok.false c.position.ensures c.cut_contains.ensures c.if-cut_contains.true c.tell_of-then-cut_contains.ensures

pub cut_hit-returns-then-restarts-eq0 : goal.cut_hit-returns-then-restarts-eq0
cut_hit-returns-then-restarts-eq0 t c =
    cut-spent _ _ _ _ _ _ _ (c.entry_hit-ha.ensures ∙ ap (shape_hit _) c.again.ensures) (c.entry_hit-hb.ensures ∙ ap (shape_hit _) c.again-2.ensures) c.both.ensures c.in_ok-h.was c.is_ok.ensures c.if-not-is_ok.false c.position.ensures c.cut_contains.ensures c.if-restarts-eq0.true c.if-cut_contains.false

pub cut_hit-returns-in_err-h : goal.cut_hit-returns-in_err-h
cut_hit-returns-in_err-h t c =
    let p = err_from_is_err_and c.from_residual.result c.from_residual.ensures.1 in
    p.1 ∙ ap Err p.2 ∙ cut-refused _ _ _ _ _ _ _ (c.entry_hit-ha.ensures ∙ ap (shape_hit _) c.again.ensures) (c.entry_hit-hb.ensures ∙ ap (shape_hit _) c.again-2.ensures) c.both.ensures c.in_err-h.was

pub cut_hit-returns : goal.cut_hit-returns
cut_hit-returns t c =
    c.by_fields-2.ensures ∙ c.cut_hit.ensures ∙ rw c.restarted.ensures (cut_again _ _ _ _ _ _ _ (c.entry_hit-ha.ensures ∙ ap (shape_hit _) c.again.ensures) (c.entry_hit-hb.ensures ∙ ap (shape_hit _) c.again-2.ensures) c.both.ensures c.in_ok-h.was c.is_ok.ensures c.if-not-is_ok.false c.position.ensures c.cut_contains.ensures c.if-restarts-eq0.false c.if-cut_contains.false)

pub entry_hit-returns-then-depth-eq0 : goal.entry_hit-returns-then-depth-eq0
unfolding read shape_hit
entry_hit-returns-then-depth-eq0 t c = rw (c.if-depth-eq0.true, c.no_hit.ensures)

pub entry_hit-returns-then-not-is_there : goal.entry_hit-returns-then-not-is_there
unfolding shape_of shape_hit
entry_hit-returns-then-not-is_there t c =
    rw (decode_is _ _ _ _ _ c.if-depth-eq0.false (entry-none _ _ _ _ c.is_there.ensures c.if-not-is_there.true), c.no_hit-then-not-is_there.ensures)

pub entry_hit-met_at-q-requires : goal.entry_hit-met_at-q-requires
entry_hit-met_at-q-requires t c =
    (inverse-fits _ _ _ _ c.is_there.ensures c.if-not-is_there.false, marks-fit _ _ _ _ c.is_there.ensures c.if-not-is_there.false, c.if-depth-eq0.false)

pub entry_hit-part_hit-requires : goal.entry_hit-part_hit-requires
entry_hit-part_hit-requires t c =
    (omega arith, met-below _ _ c.args.i c.args.r _ c.met_at-q.ensures c.if-depth-eq0.false)

pub entry_hit-returns : goal.entry_hit-returns
entry_hit-returns t c =
    c.told.ensures ∙ met-hit _ _ _ _ c.is_there.ensures c.if-not-is_there.false _ c.if-depth-eq0.false _ c.met_at-q.ensures c.part_hit.ensures

pub part_hit-returns-then-depth-eq0 : goal.part_hit-returns-then-depth-eq0
unfolding read shape_hit
part_hit-returns-then-depth-eq0 t c = rw (c.if-depth-eq0.true, c.no_hit.ensures)

pub part_hit-returns-then-not-is_there : goal.part_hit-returns-then-not-is_there
unfolding shape_of shape_hit
part_hit-returns-then-not-is_there t c =
    rw (decode_is _ _ _ _ _ c.if-depth-eq0.false (entry-none _ _ _ _ c.is_there.ensures c.if-not-is_there.true), c.no_hit-then-not-is_there.ensures)

pub part_hit-simple_at-s-requires : goal.part_hit-simple_at-s-requires
part_hit-simple_at-s-requires t c =
    (numbers_fit _ _ _ _ c.is_there.ensures c.if-not-is_there.false, marks-fit _ _ _ _ c.is_there.ensures c.if-not-is_there.false)

pub part_hit-parts_at-e-requires : goal.part_hit-parts_at-e-requires
part_hit-parts_at-e-requires t c = marks-fit _ _ _ _ c.is_there.ensures c.if-not-is_there.false

pub part_hit-entry_hit-requires : goal.part_hit-entry_hit-requires
part_hit-entry_hit-requires t c =
    let e = rw c.in-Some-Placed.is at c.in-Some-Placed.field-0-is in
    let below : c.args.depth < c.args.above = falls_below c.requires (sym c.parts_at-e.ensures ∙ c.in-Some-Placed.is ∙ ap Some e) in
    (omega arith, tt)

pub part_hit-returns-in-Some : goal.part_hit-returns-in-Some
unfolding shape_of shape_hit
part_hit-returns-in-Some t c =
    rw (decode_is _ _ _ _ _ c.if-depth-eq0.false (entry-simple _ _ _ _ c.is_there.ensures c.if-not-is_there.false c.simple_at-s.ensures c.in-Some.is)) (ap Ok (c.intersect.ensures ∙ ap (hit_of _) c.again.ensures))

pub part_hit-returns-in-Some-Cut : goal.part_hit-returns-in-Some-Cut
unfolding shape_of shape_hit
part_hit-returns-in-Some-Cut t c =
    let e = rw c.in-Some-Cut.is at c.in-Some-Cut.field-0-is in
    rw (decode_is _ _ _ _ _ c.if-depth-eq0.false (entry-parts _ _ _ _ c.is_there.ensures c.if-not-is_there.false c.simple_at-s.ensures c.in-None.is c.parts_at-e.ensures), c.in-Some-Cut.is, e, ← c.again-in-Some-Cut.ensures) c.cut_hit.ensures

pub part_hit-returns-in-None-e : goal.part_hit-returns-in-None-e
unfolding shape_of shape_hit
part_hit-returns-in-None-e t c =
    rw (decode_is _ _ _ _ _ c.if-depth-eq0.false (entry-parts _ _ _ _ c.is_there.ensures c.if-not-is_there.false c.simple_at-s.ensures c.in-None.is c.parts_at-e.ensures), c.in-None-e.is, c.no_hit-in-None-e.ensures)
