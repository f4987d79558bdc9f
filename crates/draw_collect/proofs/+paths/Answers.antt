-- The two functions that walk a drawn value, by what the entry is.
use Rattle.std.proofs.Common.{arith, ap, ◌∙◌, Some}
use Rattle.std.proofs.lemmas.Result.{err_from_is_err_and}
use Rattle.draw_arcs.specs.Stances.{placement_of}
use Rattle.draw_collect.proofs.Nesting.{entry-nowhere, one-wide, entry-none, entry-shallow, entry-simple, placed-refused, placed-moved, joint-lent, joint, parts-refused, parts-on}
use Rattle.draw_collect.proofs.+paths.Goals as goal

pub entry_paths-returns-then-depth-eq0 : goal.entry_paths-returns-then-depth-eq0
entry_paths-returns-then-depth-eq0 t c =
    let args = c.args in entry-nowhere (placement_of args.t) args.wide args.many args.n args.m args.work.now args.begins.now args.chopped.now args.chopped_starts.now args.numbers.now args.inverses.now args.marks.now args.points.now args.starts.now args.owners.now args.depth args.i c.requires.0 c.if-depth-eq0.true

pub entry_paths-returns-then-depth-eq1 : goal.entry_paths-returns-then-depth-eq1
entry_paths-returns-then-depth-eq1 t c =
    let args = c.args in entry-shallow (placement_of args.t) args.wide args.many args.n args.m args.work.now args.begins.now args.chopped.now args.chopped_starts.now args.numbers.now args.inverses.now args.marks.now args.points.now args.starts.now args.owners.now args.depth args.i c.requires.0 c.if-depth-eq0.false c.entry_at-e.ensures (c.in-Some-Cut.is ∙ ap Some (rw c.in-Some-Cut.is at c.in-Some-Cut.field-0-is)) c.if-depth-eq1.true

pub entry_paths-join-requires : goal.entry_paths-join-requires
entry_paths-join-requires t c =
    let args = c.args in joint-lent (placement_of args.t) args.wide args.many args.n args.m args.work.now args.begins.now args.chopped.now args.chopped_starts.now args.numbers.now args.inverses.now args.marks.now args.points.now args.starts.now args.owners.now args.depth args.i c.requires.0 c.if-depth-eq0.false c.entry_at-e.ensures (c.in-Some-Cut.is ∙ ap Some (rw c.in-Some-Cut.is at c.in-Some-Cut.field-0-is)) c.if-depth-eq1.false c.part_paths-c.new.work c.part_paths-c.new.begins c.part_paths-c.auto.work c.part_paths-c.auto.begins c.part_paths-c.ensures

pub entry_paths-returns-in-None : goal.entry_paths-returns-in-None
entry_paths-returns-in-None t c =
    let args = c.args in entry-none (placement_of args.t) args.wide args.many args.n args.m args.work.now args.begins.now args.chopped.now args.chopped_starts.now args.numbers.now args.inverses.now args.marks.now args.points.now args.starts.now args.owners.now args.depth args.i c.requires.0 c.if-depth-eq0.false c.entry_at-e.ensures c.in-None.is

pub entry_paths-returns-in-Some-Simple : goal.entry_paths-returns-in-Some-Simple
entry_paths-returns-in-Some-Simple t c =
    let args = c.args in entry-simple (placement_of args.t) args.wide args.many args.n args.m args.work.now args.begins.now args.chopped.now args.chopped_starts.now args.numbers.now args.inverses.now args.marks.now args.points.now args.starts.now args.owners.now args.depth args.i c.requires.0 c.if-depth-eq0.false c.entry_at-e.ensures (c.in-Some-Simple.is ∙ ap Some (rw c.in-Some-Simple.is at c.in-Some-Simple.field-0-is)) c.detail_of.ensures _ _ c.shown_paths.ensures c.shown_paths.auto.out c.shown_paths.auto.begins

pub entry_paths-returns-in_err-p-in-Some-Placed : goal.entry_paths-returns-in_err-p-in-Some-Placed
entry_paths-returns-in_err-p-in-Some-Placed t c =
    let args = c.args in let p = err_from_is_err_and c.from_residual.result c.from_residual.ensures.1 in rw (p.1, p.2) (placed-refused (placement_of args.t) args.wide args.many args.n args.m args.work.now args.begins.now args.chopped.now args.chopped_starts.now args.numbers.now args.inverses.now args.marks.now args.points.now args.starts.now args.owners.now args.depth args.i c.requires.0 c.if-depth-eq0.false c.entry_at-e.ensures (c.in-Some-Placed.is ∙ ap Some (rw c.in-Some-Placed.is at c.in-Some-Placed.field-0-is)) c.placed_stance-inner.ensures.0 _ _ c.entry_paths.ensures c.in_err-p-in-Some-Placed.was _ _)

pub entry_paths-returns-in_ok-p-in-Some-Placed : goal.entry_paths-returns-in_ok-p-in-Some-Placed
entry_paths-returns-in_ok-p-in-Some-Placed t c =
    let args = c.args in placed-moved (placement_of args.t) args.wide args.many args.n args.m args.work.now args.begins.now args.chopped.now args.chopped_starts.now args.numbers.now args.inverses.now args.marks.now args.points.now args.starts.now args.owners.now args.depth args.i c.requires.0 c.if-depth-eq0.false c.entry_at-e.ensures (c.in-Some-Placed.is ∙ ap Some (rw c.in-Some-Placed.is at c.in-Some-Placed.field-0-is)) c.placed_stance-inner.ensures.0 c.entry_paths.new.work c.entry_paths.new.begins c.entry_paths.ensures c.in_ok-p-in-Some-Placed.was _ c.move_points.ensures c.move_points.auto.xs
    (omega (arith, c.entry_paths.auto.work, one-wide (placement_of args.t) args.wide args.many args.n args.m args.work.now args.begins.now args.chopped.now args.chopped_starts.now args.numbers.now args.inverses.now args.marks.now args.points.now args.starts.now args.owners.now args.depth args.i c.requires.0 c.if-depth-eq0.false))

pub entry_paths-returns-else-depth-eq1 : goal.entry_paths-returns-else-depth-eq1
entry_paths-returns-else-depth-eq1 t c =
    let args = c.args in joint (placement_of args.t) args.wide args.many args.n args.m args.work.now args.begins.now args.chopped.now args.chopped_starts.now args.numbers.now args.inverses.now args.marks.now args.points.now args.starts.now args.owners.now args.depth args.i c.requires.0 c.if-depth-eq0.false c.entry_at-e.ensures (c.in-Some-Cut.is ∙ ap Some (rw c.in-Some-Cut.is at c.in-Some-Cut.field-0-is)) c.if-depth-eq1.false c.part_paths-c.new.work c.part_paths-c.new.begins c.part_paths-c.auto.work c.part_paths-c.auto.begins c.part_paths-c.ensures
    c.part_paths-c.new.chopped c.part_paths-c.new.chopped_starts c.part_paths-c.auto.chopped c.part_paths-c.auto.chopped_starts _ _ c.join.ensures

pub part_paths-returns-in_err-p : goal.part_paths-returns-in_err-p
part_paths-returns-in_err-p t c =
    let args = c.args in let p = err_from_is_err_and c.from_residual.result c.from_residual.ensures.1 in rw (p.1, p.2) (parts-refused (placement_of args.t) args.wide args.many args.work.now args.begins.now args.chopped.now args.chopped_starts.now _ _ _ _ c.entry_paths.ensures c.in_err-p.was _ _)

pub part_paths-returns : goal.part_paths-returns
part_paths-returns t c =
    let args = c.args in parts-on (placement_of args.t) args.wide args.many args.work.now args.begins.now args.chopped.now args.chopped_starts.now _ _ _ _ c.entry_paths.ensures c.in_ok-p.was c.entry_paths.new.chopped c.entry_paths.new.chopped_starts c.entry_paths.auto.chopped c.entry_paths.auto.chopped_starts _ _ c.entry_paths-2.ensures
