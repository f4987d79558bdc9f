use Rattle.std.proofs.lemmas.Result.{err_from_is_err_and}
use Rattle.draw_collect.proofs.Joins.{join-none, join-fits, join-refused, join-asks, join-appended}
use native.Mathlib.Omega.{arith}
use Rattle.draw_collect.proofs.join.Goals as goal

pub overflow_add-end : goal.overflow_add-end
overflow_add-end c =
    let good = c.well_formed in let pre = c.requires in omega (arith, pre.0.long, good)

pub overflow_add-last : goal.overflow_add-last
overflow_add-last c =
    let good = c.well_formed in let pre = c.requires in omega (arith, pre.0.broad, good)

pub offset_bounds-work-wide : goal.offset_bounds-work-wide
offset_bounds-work-wide c =
    let good = c.well_formed in let pre = c.requires in omega (arith, pre.0.long, good)

pub slice_bounds-sift-count : goal.slice_bounds-sift-count
slice_bounds-sift-count c =
    omega arith

pub slice_bounds-sift-start : goal.slice_bounds-sift-start
slice_bounds-sift-start c =
    omega arith

pub slice_bounds-sift-end : goal.slice_bounds-sift-end
slice_bounds-sift-end c =
    let pre = c.requires in omega (arith, pre.0.long)

pub offset_bounds-begins-many : goal.offset_bounds-begins-many
offset_bounds-begins-many c =
    let good = c.well_formed in let pre = c.requires in omega (arith, pre.0.broad, good)

pub slice_bounds-sift-count-2 : goal.slice_bounds-sift-count-2
slice_bounds-sift-count-2 c =
    omega arith

pub slice_bounds-sift-start-2 : goal.slice_bounds-sift-start-2
slice_bounds-sift-start-2 c =
    omega arith

pub slice_bounds-sift-end-2 : goal.slice_bounds-sift-end-2
slice_bounds-sift-end-2 c =
    let pre = c.requires in omega (arith, pre.0.broad)

pub sift-requires : goal.sift-requires
sift-requires c =
    let args = c.args in let pre = c.requires in join-fits args.wide args.many args.n args.m args.work.now args.begins.now pre.0 _ _ (pre.1 _ _ c.in_ok-p.was)

pub append-requires : goal.append-requires
append-requires c =
    let args = c.args in let pre = c.requires in join-asks args.wide args.many args.n args.m args.work.now args.begins.now pre.0 args.args _ args.chopped.now args.chopped_starts.now c.in_ok-p.was c.sift.new.path c.sift.new.begins c.sift.ensures c.sift.auto.path c.sift.auto.begins c.in_ok-x.was

pub returns-in_err-p : goal.returns-in_err-p
returns-in_err-p c =
    let args = c.args in let pre = c.requires in let p = err_from_is_err_and c.from_residual.result c.from_residual.ensures.1 in rw (p.1, p.2) (join-none args.wide args.many args.n args.m args.work.now args.begins.now pre.0 args.args _ args.chopped.now args.chopped_starts.now _ _ c.in_err-p.was)

pub returns-in_err-x : goal.returns-in_err-x
returns-in_err-x c =
    let args = c.args in let pre = c.requires in let p = err_from_is_err_and c.from_residual-in_err-x.result c.from_residual-in_err-x.ensures.1 in rw (p.1, p.2) (join-refused args.wide args.many args.n args.m args.work.now args.begins.now pre.0 args.args _ args.chopped.now args.chopped_starts.now c.in_ok-p.was c.sift.new.path c.sift.new.begins c.sift.ensures c.sift.auto.path c.sift.auto.begins _ _ c.in_err-x.was)

pub returns : goal.returns
returns c =
    let args = c.args in let pre = c.requires in join-appended args.wide args.many args.n args.m args.work.now args.begins.now pre.0 args.args _ args.chopped.now args.chopped_starts.now c.in_ok-p.was c.sift.new.path c.sift.new.begins c.sift.ensures c.sift.auto.path c.sift.auto.begins c.in_ok-x.was _ _ c.append.ensures
