use Rattle.std.proofs.lemmas.Result.{err_from_is_err_and}
use Rattle.path_filter.proofs.Filtering.{step-refused, keep-full, keep-on, drop-full, drop-on}
use Rattle.path_filter.proofs.step.Goals as goal

pub returns-in_err-v : goal.returns-in_err-v
returns-in_err-v c =
    let args = c.args in let p = err_from_is_err_and c.from_residual.result c.from_residual.ensures.1 in
    rw (p.1, p.2) (step-refused args.out.now args.begins.now args.n args.m args.t c.in_err-v.was)

pub returns-in_err-q-in-Some : goal.returns-in_err-q-in-Some
returns-in_err-q-in-Some c =
    let args = c.args in let r = c.from_residual-in_err-q-in-Some in let p = err_from_is_err_and r.result r.ensures.1 in
    rw (p.1, p.2) (keep-full args.out.now args.begins.now args.n args.m args.t (rw c.in-Some.is at c.in_ok-v.was) _ c.push.ensures c.in_err-q-in-Some.was)

pub returns-in_ok-q-in-Some : goal.returns-in_ok-q-in-Some
returns-in_ok-q-in-Some c =
    let args = c.args in let pre = c.requires in
    keep-on args.out.now args.begins.now args.n args.m args.t (rw c.in-Some.is at c.in_ok-v.was) _ c.push.ensures c.in_ok-q-in-Some.was pre.1

pub returns-in_err-q-in-None : goal.returns-in_err-q-in-None
returns-in_err-q-in-None c =
    let args = c.args in let r = c.from_residual-in_err-q-in-None in let p = err_from_is_err_and r.result r.ensures.1 in
    rw (p.1, p.2) (drop-full args.out.now args.begins.now args.n args.m args.t (rw c.in-None.is at c.in_ok-v.was) c.close-z.result c.close-z.ensures.0 _ c.new_path.ensures c.in_err-q-in-None.was)

pub returns-in_ok-q-in-None : goal.returns-in_ok-q-in-None
returns-in_ok-q-in-None c =
    let args = c.args in let pre = c.requires in
    drop-on args.out.now args.begins.now args.n args.m args.t (rw c.in-None.is at c.in_ok-v.was) c.close-z.result c.close-z.ensures.0 _ c.new_path.ensures c.in_ok-q-in-None.was pre.0
