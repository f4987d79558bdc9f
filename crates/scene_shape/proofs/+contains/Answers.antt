use Rattle.std.proofs.Common.{◌-◌, not, ap, ◌∙◌}
use Rattle.geometry.specs.declared.vector.Vector.{Vector}
use Rattle.matrix.specs.Matrices.{mul_position}
use Rattle.matrix.specs.declared.Matrix.{Matrix}
use Rattle.scene.proofs.Parts.{entry-none, entry-simple, entry-parts, numbers_fit, inverse-fits, marks-fit}
use Rattle.scene_shape.proofs.Shapes.{decode_is, and_then, and-not}
use Rattle.scene_shape.specs.Shapes.{read, decode, shape_of, shape_contains}
use Rattle.scene_shape.specs.Cuts.{cut_contains}
use Rattle.scene_shape.proofs.+contains.Goals as goal

pub cut_contains-returns-then-not-entry_contains : goal.cut_contains-returns-then-not-entry_contains
unfolding cut_contains
cut_contains-returns-then-not-entry_contains t c =
    and-not _ c.entry_contains.ensures c.if-not-entry_contains.true

pub cut_contains-returns-then-takes_away : goal.cut_contains-returns-then-takes_away
unfolding cut_contains
cut_contains-returns-then-takes_away t c =
    rw (← c.takes_away.ensures, c.if-takes_away.true)
    (and_then c.entry_contains.ensures c.if-not-entry_contains.false (ap not c.entry_contains-then-takes_away.ensures))

pub cut_contains-returns : goal.cut_contains-returns
unfolding cut_contains
cut_contains-returns t c =
    rw (← c.takes_away.ensures, c.if-takes_away.false)
    (and_then c.entry_contains.ensures c.if-not-entry_contains.false c.entry_contains-2.ensures)

pub entry_contains-returns-then-depth-eq0 : goal.entry_contains-returns-then-depth-eq0
unfolding read shape_contains
entry_contains-returns-then-depth-eq0 t c = rw c.if-depth-eq0.true

pub entry_contains-returns-then-not-is_there : goal.entry_contains-returns-then-not-is_there
unfolding shape_of shape_contains
entry_contains-returns-then-not-is_there t c =
    rw (decode_is _ _ _ _ _ c.if-depth-eq0.false (entry-none _ _ _ _ c.is_there.ensures c.if-not-is_there.true))

pub entry_contains-simple_at-s-requires : goal.entry_contains-simple_at-s-requires
entry_contains-simple_at-s-requires t c =
    (numbers_fit _ _ _ _ c.is_there.ensures c.if-not-is_there.false, marks-fit _ _ _ _ c.is_there.ensures c.if-not-is_there.false)

pub entry_contains-parts_at-e-requires : goal.entry_contains-parts_at-e-requires
entry_contains-parts_at-e-requires t c = marks-fit _ _ _ _ c.is_there.ensures c.if-not-is_there.false

pub entry_contains-matrix_at-v-requires : goal.entry_contains-matrix_at-v-requires
entry_contains-matrix_at-v-requires t c = inverse-fits _ _ _ _ c.is_there.ensures c.if-not-is_there.false

pub entry_contains-returns-in-Some : goal.entry_contains-returns-in-Some
unfolding shape_of shape_contains
entry_contains-returns-in-Some t c =
    rw (decode_is _ _ _ _ _ c.if-depth-eq0.false (entry-simple _ _ _ _ c.is_there.ensures c.if-not-is_there.false c.simple_at-s.ensures c.in-Some.is)) c.contains.ensures

pub entry_contains-returns-in-Some-Placed : goal.entry_contains-returns-in-Some-Placed
unfolding shape_of shape_contains
entry_contains-returns-in-Some-Placed t c =
    let e = rw c.in-Some-Placed.is at c.in-Some-Placed.field-0-is in
    rw (decode_is _ _ _ _ _ c.if-depth-eq0.false (entry-parts _ _ _ _ c.is_there.ensures c.if-not-is_there.false c.simple_at-s.ensures c.in-None.is c.parts_at-e.ensures), c.in-Some-Placed.is, e)
    (c.entry_contains.ensures ∙ ap (λ (q : Vector). shape_contains (decode (c.args.depth - 1) c.args.numbers.now c.args.inverses.now c.args.marks.now c.in-Some-Placed.k) q c.args.f) (c.mul_position.ensures ∙ ap (λ (m : Matrix). mul_position m c.args.p) c.matrix_at-v.ensures))

pub entry_contains-returns-in-Some-Cut : goal.entry_contains-returns-in-Some-Cut
unfolding shape_of shape_contains
entry_contains-returns-in-Some-Cut t c =
    let e = rw c.in-Some-Cut.is at c.in-Some-Cut.field-0-is in
    rw (decode_is _ _ _ _ _ c.if-depth-eq0.false (entry-parts _ _ _ _ c.is_there.ensures c.if-not-is_there.false c.simple_at-s.ensures c.in-None.is c.parts_at-e.ensures), c.in-Some-Cut.is, e) c.cut_contains.ensures

pub entry_contains-returns-in-None-e : goal.entry_contains-returns-in-None-e
unfolding shape_of shape_contains
entry_contains-returns-in-None-e t c =
    rw (decode_is _ _ _ _ _ c.if-depth-eq0.false (entry-parts _ _ _ _ c.is_there.ensures c.if-not-is_there.false c.simple_at-s.ensures c.in-None.is c.parts_at-e.ensures), c.in-None-e.is)
