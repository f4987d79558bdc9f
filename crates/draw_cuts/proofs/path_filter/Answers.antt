use native.Mathlib.Omega.{arith}
use Rattle.std.proofs.lemmas.Result.{err_from_is_err_and}
use Rattle.path_filter.proofs.Filtering.{path-full, path-refused, path-done}
use Rattle.draw_cuts.proofs.path_filter.Goals as goal

pub filter_from-requires : goal.filter_from-requires
filter_from-requires c =
    let pre = c.requires in (pre.0, pre.1, pre.2, omega (arith, c.new_path.ensures.fits _ c.in_ok-q.was))

pub returns-in_err-q : goal.returns-in_err-q
returns-in_err-q c =
    let args = c.args in
    let p = err_from_is_err_and c.from_residual.result c.from_residual.ensures.1 in
    rw (p.1, p.2) (path-full _ _ args.out.now args.begins.now args.n args.m _ c.new_path.ensures c.in_err-q.was)

pub returns-in_err-a : goal.returns-in_err-a
returns-in_err-a c =
    let args = c.args in
    let p = err_from_is_err_and c.from_residual-in_err-a.result c.from_residual-in_err-a.ensures.1 in
    rw (p.1, p.2) (path-refused _ _ args.out.now args.begins.now args.n args.m _ c.new_path.ensures c.in_ok-q.was c.new_path.auto.starts _ _ c.filter_from.ensures c.in_err-a.was)

pub returns : goal.returns
returns c =
    let args = c.args in
    path-done _ _ args.out.now args.begins.now args.n args.m _ c.new_path.ensures c.in_ok-q.was c.new_path.auto.starts _ _ c.filter_from.ensures _ c.in_ok-a.was c.close-z.ensures.0 c.close-z.ensures.1
