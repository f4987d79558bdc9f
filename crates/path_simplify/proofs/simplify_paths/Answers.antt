use Rattle.std.proofs.lemmas.Result.{err_from_is_err_and}
use Rattle.paths.proofs.Stages.{staging-start, staging-turn, staging-refused, staging-end}
use Rattle.paths.proofs.Parts.{range-fits}
use mathlib.Core.Path.{◌∙◌}
use Rattle.path_simplify.proofs.simplify_paths.Goals as goal

pub loop-i-init : goal.loop-i-init
loop-i-init c =
    staging-start _ _ _ _ _

pub one_path-requires : goal.one_path-requires
one_path-requires c =
    let args = c.args in let pre = c.requires in let w = range-fits args.path.now args.starts.now c.loop-i.i c.range_of-s.result c.range_of-s.ensures in
    (w.0, w.1, c.loop-i.invariant.fits, c.loop-i.invariant.fits-starts, pre)

pub shape_of-out-in_err-n : goal.shape_of-out-in_err-n
shape_of-out-in_err-n c =
    c.one_path.auto.out ∙ c.loop-i.invariant.same

pub shape_of-begins-in_err-n : goal.shape_of-begins-in_err-n
shape_of-begins-in_err-n c =
    c.one_path.auto.begins ∙ c.loop-i.invariant.same-starts

pub returns-in_err-n : goal.returns-in_err-n
returns-in_err-n c =
    let p = err_from_is_err_and c.from_residual.result c.from_residual.ensures.1 in rw (p.1, p.2) (staging-refused _ _ _ _ _ _ _ _ _ _ c.loop-i.invariant c.loop-i-test.true _ c.range_of-s.ensures _ _ c.one_path.ensures c.in_err-n.was)

pub loop-i-preserved : goal.loop-i-preserved
loop-i-preserved c =
    staging-turn _ _ _ _ _ _ _ _ _ _ c.loop-i.invariant c.loop-i-test.true _ c.range_of-s.ensures _ _ c.one_path.ensures c.one_path.auto.out c.one_path.auto.begins c.in_ok-n.was

pub shape_of-out : goal.shape_of-out
shape_of-out c =
    c.loop-i.invariant.same

pub shape_of-begins : goal.shape_of-begins
shape_of-begins c =
    c.loop-i.invariant.same-starts

pub returns : goal.returns
returns c =
    staging-end _ _ _ _ _ _ _ _ _ _ c.loop-i.invariant c.loop-i-test.false
