use Rattle.std.proofs.lemmas.Result.{err_from_is_err_and}
use Rattle.path_chop.proofs.Halving.{chopping-start, chopping-turn, chopping-refused, chopping-end}
use mathlib.Core.Path.{◌∙◌}
use Rattle.path_chop.proofs.chop_from.Goals as goal

pub loop-i-init : goal.loop-i-init
loop-i-init c =
    chopping-start _ _ _ _ _ _ _ c.requires.0 c.requires.1 c.requires.2

pub shape_of-out-in_err-m : goal.shape_of-out-in_err-m
shape_of-out-in_err-m c =
    c.subdivide.auto.out ∙ c.loop-i.invariant.same

pub returns-in_err-m : goal.returns-in_err-m
returns-in_err-m c =
    let p = err_from_is_err_and c.from_residual.result c.from_residual.ensures.1 in rw (p.1, p.2) (chopping-refused _ _ _ _ _ _ _ _ _ _ _ c.loop-i.invariant c.loop-i-test.true _ _ c.read_point-v.ensures c.spot_of-b.ensures _ c.subdivide.ensures c.in_err-m.was)

pub loop-i-preserved : goal.loop-i-preserved
loop-i-preserved c =
    chopping-turn _ _ _ _ _ _ _ _ _ _ _ c.loop-i.invariant c.loop-i-test.true _ _ c.read_point-v.ensures c.spot_of-b.ensures _ c.subdivide.ensures c.subdivide.auto.out c.in_ok-m.was

pub shape_of-out : goal.shape_of-out
shape_of-out c =
    c.loop-i.invariant.same

pub returns : goal.returns
returns c =
    chopping-end _ _ _ _ _ _ _ _ _ _ _ c.loop-i.invariant c.loop-i-test.false
