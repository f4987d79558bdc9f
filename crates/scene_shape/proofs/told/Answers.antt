use Rattle.std.proofs.lemmas.Result.{err_from_is_err_and}
use Rattle.scene_shape.proofs.Shapes.{told-refused}
use Rattle.scene_shape.specs.Meetings.{told_by}
use Rattle.scene_shape.specs.Cuts.{rescaled}
use Rattle.scene_shape.proofs.told.Goals as goal

pub returns-in_err-h : goal.returns-in_err-h
returns-in_err-h c =
    let p = err_from_is_err_and c.from_residual.result c.from_residual.ensures.1 in rw (p.1, p.2) (told-refused _ _ c.in_err-h.was)

pub returns-then-placed : goal.returns-then-placed
unfolding told_by rescaled
returns-then-placed c =
    rw (c.if-placed.true, c.in_ok-h.was)

pub returns-else-placed : goal.returns-else-placed
unfolding told_by rescaled
returns-else-placed c =
    rw (c.if-placed.false, c.in_ok-h.was)
