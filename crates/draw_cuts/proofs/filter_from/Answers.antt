use Rattle.std.proofs.lemmas.Result.{err_from_is_err_and}
use Rattle.path_filter.proofs.Filtering.{filtering-start, filtering-turn, filtering-refused, filtering-end}
use Rattle.draw_cuts.proofs.filter_from.Goals as goal

pub loop-i-init : goal.loop-i-init
loop-i-init c =
    let pre = c.requires in filtering-start _ _ _ _ _ _ _ _ pre.0 pre.1 pre.2 pre.3

pub returns-in_err-a : goal.returns-in_err-a
returns-in_err-a c =
    let p = err_from_is_err_and c.from_residual.result c.from_residual.ensures.1 in rw (p.1, p.2) (filtering-refused _ _ _ _ _ _ _ _ _ _ _ _ _ c.loop-i.invariant c.loop-i-test.true _ _ c.read_point-v.ensures c.cut_filter-t.ensures _ _ c.step.ensures c.in_err-a.was)

pub loop-i-preserved : goal.loop-i-preserved
loop-i-preserved c =
    filtering-turn _ _ _ _ _ _ _ _ _ _ _ _ _ c.loop-i.invariant c.loop-i-test.true _ _ c.read_point-v.ensures c.cut_filter-t.ensures _ _ c.step.ensures c.step.auto.out c.step.auto.begins c.in_ok-a.was

pub returns : goal.returns
returns c =
    filtering-end _ _ _ _ _ _ _ _ _ _ _ _ _ c.loop-i.invariant c.loop-i-test.false
