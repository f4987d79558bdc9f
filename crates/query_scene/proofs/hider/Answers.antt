use Rattle.query_scene.proofs.Names.{hides-near, hides-far}
use Rattle.query_scene.proofs.hider.Goals as goal

pub returns-then-distance : goal.returns-then-distance
returns-then-distance c =
    hides-near _ _ _ _ _ c.sub-v.ensures c.norm-distance.ensures c.if-distance.true

pub returns : goal.returns
returns c =
    hides-far _ _ _ _ _ c.sub-v.ensures c.norm-distance.ensures c.if-distance.false _ c.div_scalar.ensures
    _ c.new-r.ensures _ c.intersect-a.ensures _ c.named.ensures
