use Rattle.std.proofs.lemmas.Result.{err_from_is_err_and}
use Rattle.paths.proofs.Stages.{one-full, one-refused, one-done}
use Rattle.path_simplify.specs.Simplify.{path_simplify}
use native.Mathlib.Omega.{arith}
use Rattle.path_simplify.proofs.one_path.Goals as goal

pub close-z-requires : goal.close-z-requires
close-z-requires c =
    omega (arith, c.new_path.ensures.fits _ c.in_ok-q.was)

pub returns-in_err-q : goal.returns-in_err-q
returns-in_err-q c =
    let args = c.args in let p = err_from_is_err_and c.from_residual.result c.from_residual.ensures.1 in
    rw (p.1, p.2) (one-full (path_simplify args.threshold) _ args.out.now args.begins.now args.n args.m _ c.new_path.ensures c.in_err-q.was)

pub returns-in_err-l : goal.returns-in_err-l
returns-in_err-l c =
    let args = c.args in let p = err_from_is_err_and c.from_residual-in_err-l.result c.from_residual-in_err-l.ensures.1 in
    rw (p.1, p.2) (one-refused (path_simplify args.threshold) _ args.out.now args.begins.now args.n args.m _ c.new_path.ensures c.in_ok-q.was _ c.path_simplify.ensures c.in_err-l.was)

pub returns : goal.returns
returns c =
    let args = c.args in one-done (path_simplify args.threshold) _ args.out.now args.begins.now args.n args.m _ c.new_path.ensures c.in_ok-q.was _ c.path_simplify.ensures _ c.in_ok-l.was c.close-z.ensures.0 c.close-z.ensures.1
