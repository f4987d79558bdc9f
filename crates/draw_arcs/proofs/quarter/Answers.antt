use Rattle.std.proofs.lemmas.Result.{err_from_is_err_and}
use Rattle.draw_arcs.proofs.Pushing.{pushes-refused, pushes-some}
use Rattle.draw_arcs.proofs.quarter.Goals as goal

pub pieces-requires : goal.pieces-requires
pieces-requires c =
    c.requires _ c.in_ok-n.was

pub returns-in_err-n : goal.returns-in_err-n
returns-in_err-n c =
    let p = err_from_is_err_and c.from_residual.result c.from_residual.ensures.1 in rw (p.1, p.2) (pushes-refused _ _ c.in_err-n.was)

pub returns : goal.returns
returns c =
    let args = c.args in pushes-some _ args.out.now _ c.in_ok-n.was c.pieces.ensures
