use Rattle.std.proofs.lemmas.Result.{err_from_is_err_and}
use Rattle.scene_shape.proofs.by_fields.Goals as goal

pub returns : goal.returns
returns c =
    rw c.in_ok-h.was

pub returns-in_err-h : goal.returns-in_err-h
returns-in_err-h c =
    let p = err_from_is_err_and c.from_residual.result c.from_residual.ensures.1 in rw (p.1, p.2) (rw c.in_err-h.was)
