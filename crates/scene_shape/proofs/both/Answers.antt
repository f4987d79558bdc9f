use Rattle.std.proofs.lemmas.Result.{err_from_is_err_and}
use Rattle.scene_shape.specs.Cuts.{both}
use Rattle.scene_shape.proofs.both.Goals as goal

pub returns-in_err-g : goal.returns-in_err-g
unfolding both
returns-in_err-g c =
    let p = err_from_is_err_and c.from_residual.result c.from_residual.ensures.1 in
    rw (c.in_err-g.was, p.1, p.2)

pub returns-in_err-h : goal.returns-in_err-h
unfolding both
returns-in_err-h c =
    let p = err_from_is_err_and c.from_residual-in_err-h.result c.from_residual-in_err-h.ensures.1 in
    rw (c.in_ok-g.was, c.in_err-h.was, p.1, p.2)

pub returns : goal.returns
unfolding both
returns c =
    rw (c.min.ensures, c.in_ok-g.was, c.in_ok-h.was)
