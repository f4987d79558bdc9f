use Rattle.path_transform.proofs.Moving.{moving-start, moving-turn, moving-end}
use Rattle.path_transform.proofs.transform.Goals as goal

pub loop-i-init : goal.loop-i-init
loop-i-init c =
    moving-start _ _ _ c.requires

pub loop-i-preserved : goal.loop-i-preserved
loop-i-preserved c =
    moving-turn _ _ _ _ _ c.loop-i.invariant _ _ _ c.loop-i-test.true c.read_point-p.ensures c.mul_position.ensures c.write_point.ensures

pub shape_of-xs : goal.shape_of-xs
shape_of-xs c =
    c.loop-i.invariant.same

pub returns : goal.returns
returns c =
    moving-end _ _ _ _ _ c.loop-i.invariant c.loop-i-test.false
