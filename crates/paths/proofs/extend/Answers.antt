use Rattle.std.proofs.lemmas.Result.{err_from_is_err_and}
use Rattle.paths.proofs.Runs.{extending-start, extending-turn, extending-refused, extending-end}
use mathlib.Core.Path.{◌∙◌}
use Rattle.paths.proofs.extend.Goals as goal

pub loop-i-init : goal.loop-i-init
loop-i-init c =
    extending-start _ _ _ _ _ c.requires.0 c.requires.1 c.requires.2

pub shape_of-out-in_err-m : goal.shape_of-out-in_err-m
shape_of-out-in_err-m c =
    c.push.auto.out ∙ c.loop-i.invariant.same

pub returns-in_err-m : goal.returns-in_err-m
returns-in_err-m c =
    let p = err_from_is_err_and c.from_residual.result c.from_residual.ensures.1 in rw (p.1, p.2) (extending-refused _ _ _ _ _ _ _ _ c.loop-i.invariant _ c.loop-i-test.true c.read_point-p.ensures _ c.push.ensures c.in_err-m.was)

pub loop-i-preserved : goal.loop-i-preserved
loop-i-preserved c =
    extending-turn _ _ _ _ _ _ _ _ c.loop-i.invariant _ c.loop-i-test.true c.read_point-p.ensures _ c.push.ensures c.push.auto.out c.in_ok-m.was

pub shape_of-out : goal.shape_of-out
shape_of-out c =
    c.loop-i.invariant.same

pub returns : goal.returns
returns c =
    extending-end _ _ _ _ _ _ _ _ c.loop-i.invariant c.loop-i-test.false
