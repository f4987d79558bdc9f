use Rattle.std.proofs.lemmas.Result.{err_from_is_err_and}
use Rattle.paths.proofs.Stages.{staging-start, staging-turn, staging-refused, staging-end}
use Rattle.paths.proofs.Parts.{range-fits}
use Rattle.draw_cuts.proofs.filter_paths.Goals as goal

pub loop-i-init : goal.loop-i-init
loop-i-init c =
    staging-start _ _ _ _ _

pub path_filter-requires : goal.path_filter-requires
path_filter-requires c =
    let args = c.args in let w = range-fits args.path.now args.starts.now c.loop-i.i c.range_of-p.result c.range_of-p.ensures in
    (w.0, w.1, c.loop-i.invariant.fits, c.loop-i.invariant.fits-starts)

pub returns-in_err-n : goal.returns-in_err-n
returns-in_err-n c =
    let p = err_from_is_err_and c.from_residual.result c.from_residual.ensures.1 in rw (p.1, p.2) (staging-refused _ _ _ _ _ _ _ _ _ _ c.loop-i.invariant c.loop-i-test.true _ c.range_of-p.ensures _ _ c.path_filter.ensures c.in_err-n.was)

pub loop-i-preserved : goal.loop-i-preserved
loop-i-preserved c =
    staging-turn _ _ _ _ _ _ _ _ _ _ c.loop-i.invariant c.loop-i-test.true _ c.range_of-p.ensures _ _ c.path_filter.ensures c.path_filter.auto.out c.path_filter.auto.begins c.in_ok-n.was

pub returns : goal.returns
returns c =
    staging-end _ _ _ _ _ _ _ _ _ _ c.loop-i.invariant c.loop-i-test.false
