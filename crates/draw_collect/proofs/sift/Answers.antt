use Rattle.std.proofs.lemmas.Result.{err_from_is_err_and}
use Rattle.draw_collect.proofs.Sifting.{sift-refused, sift-filters}
use lib.Seq.{length-take-le}
use native.Mathlib.Omega.{arith}
use mathlib.Core.Path.{sym}
use Rattle.draw_collect.proofs.sift.Goals as goal

pub overflow_mul-end : goal.overflow_mul-end
overflow_mul-end c =
    let good = c.well_formed in let pre = c.requires in omega (arith, pre.0, good)

pub slice_bounds-chop_lines-end : goal.slice_bounds-chop_lines-end
slice_bounds-chop_lines-end c =
    let pre = c.requires in pre.0

pub slice_bounds-chop_lines-end-2 : goal.slice_bounds-chop_lines-end-2
slice_bounds-chop_lines-end-2 c =
    let args = c.args in let pre = c.requires in sym (length-take-le _ args.path.now pre.0)

pub slice_bounds-chop_lines-end-3 : goal.slice_bounds-chop_lines-end-3
slice_bounds-chop_lines-end-3 c =
    let pre = c.requires in pre.1

pub slice_bounds-chop_lines-end-4 : goal.slice_bounds-chop_lines-end-4
slice_bounds-chop_lines-end-4 c =
    let args = c.args in let pre = c.requires in sym (length-take-le _ args.begins.now pre.1)

pub overflow_mul-last : goal.overflow_mul-last
overflow_mul-last c =
    let good = c.well_formed in omega (arith, (c.chop_lines.ensures.fits _ _ c.in_ok-p.was).0, good)

pub slice_bounds-filter_paths-end : goal.slice_bounds-filter_paths-end
slice_bounds-filter_paths-end c =
    (c.chop_lines.ensures.fits _ _ c.in_ok-p.was).0

pub slice_bounds-filter_paths-end-2 : goal.slice_bounds-filter_paths-end-2
slice_bounds-filter_paths-end-2 c =
    sym (length-take-le _ c.chop_lines.new.out (c.chop_lines.ensures.fits _ _ c.in_ok-p.was).0)

pub slice_bounds-filter_paths-end-3 : goal.slice_bounds-filter_paths-end-3
slice_bounds-filter_paths-end-3 c =
    (c.chop_lines.ensures.fits _ _ c.in_ok-p.was).1

pub slice_bounds-filter_paths-end-4 : goal.slice_bounds-filter_paths-end-4
slice_bounds-filter_paths-end-4 c =
    sym (length-take-le _ c.chop_lines.new.begins (c.chop_lines.ensures.fits _ _ c.in_ok-p.was).1)

pub returns-in_err-p : goal.returns-in_err-p
returns-in_err-p c =
    let p = err_from_is_err_and c.from_residual.result c.from_residual.ensures.1 in rw (p.1, p.2) (let args = c.args in let pre = c.requires in sift-refused args.args _ args.path.now args.begins.now args.chopped.now args.chopped_starts.now args.n args.m pre.0 _ _ c.chop_lines.ensures c.in_err-p.was)

pub returns : goal.returns
returns c =
    let args = c.args in let pre = c.requires in sift-filters args.args _ args.path.now args.begins.now args.chopped.now args.chopped_starts.now args.n args.m pre.0 _ _ c.chop_lines.ensures c.in_ok-p.was (c.chop_lines.ensures.fits _ _ c.in_ok-p.was).0 _ _ c.filter_paths.ensures
