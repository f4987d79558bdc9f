use Rattle.tree_cover.proofs.Sighting.{covered-near, covered-far}
use Rattle.tree_cover.proofs.covered.Goals as goal

pub returns-then-distance : goal.returns-then-distance
returns-then-distance c =
    covered-near _ _ _ _ _ c.sub-v.ensures c.norm-distance.ensures c.if-distance.true

pub returns : goal.returns
returns c =
    covered-far _ _ _ _ _ c.sub-v.ensures c.norm-distance.ensures c.if-distance.false _ c.div_scalar.ensures
    _ c.new-r.ensures _ c.seek-a.ensures _ c.uncovered.ensures
