use Rattle.tree_sight.proofs.Seeing.{sees-near, sees-far}
use Rattle.tree_sight.proofs.visible.Goals as goal

pub returns-then-distance : goal.returns-then-distance
returns-then-distance c =
    sees-near _ _ _ _ _ c.sub-v.ensures c.norm-distance.ensures c.if-distance.true

pub returns : goal.returns
returns c =
    sees-far _ _ _ _ _ c.sub-v.ensures c.norm-distance.ensures c.if-distance.false _ c.div_scalar.ensures
    _ c.new-r.ensures _ c.intersect-a.ensures _ c.judged.ensures
