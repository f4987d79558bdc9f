use Rattle.std.proofs.lemmas.Result.{err_from_is_err_and}
use Rattle.paths.proofs.Stages.{one-full, one-refused, one-done}
use Rattle.path_chop.specs.Chop.{most_halvings, path_chop}
use native.Mathlib.Omega.{arith}
use Rattle.path_chop.proofs.one_path.Goals as goal

pub close-z-requires : goal.close-z-requires
close-z-requires c =
    omega (arith, c.new_path.ensures.fits _ c.in_ok-q.was)

pub returns-in_err-q : goal.returns-in_err-q
returns-in_err-q c =
    let args = c.args in let p = err_from_is_err_and c.from_residual.result c.from_residual.ensures.1 in
    rw (p.1, p.2) (one-full (path_chop most_halvings args.s) _ args.out.now args.begins.now args.n args.m _ c.new_path.ensures c.in_err-q.was)

pub returns-in_err-l : goal.returns-in_err-l
returns-in_err-l c =
    let args = c.args in let p = err_from_is_err_and c.from_residual-in_err-l.result c.from_residual-in_err-l.ensures.1 in
    rw (p.1, p.2) (one-refused (path_chop most_halvings args.s) _ args.out.now args.begins.now args.n args.m _ c.new_path.ensures c.in_ok-q.was _ c.path_chop_adaptive.ensures c.in_err-l.was)

pub returns : goal.returns
returns c =
    let args = c.args in one-done (path_chop most_halvings args.s) _ args.out.now args.begins.now args.n args.m _ c.new_path.ensures c.in_ok-q.was _ c.path_chop_adaptive.ensures _ c.in_ok-l.was c.close-z.ensures.0 c.close-z.ensures.1
