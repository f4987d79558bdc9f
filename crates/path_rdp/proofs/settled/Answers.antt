use Rattle.path_rdp.proofs.Scanning.{peak-none, peak-first}
use mathlib.Core.Path.{refl}
use Rattle.path_rdp.proofs.settled.Goals as goal

pub returns-then-index-eq0 : goal.returns-then-index-eq0
returns-then-index-eq0 c =
    let pre = c.requires in peak-none _ _ pre.2 _ c.root-distance.ensures _ refl c.if-index-eq0.true

pub returns-then-lower-distance : goal.returns-then-lower-distance
returns-then-lower-distance c =
    let pre = c.requires in peak-first _ _ pre.2 _ c.root-distance.ensures _ refl _ c.root-lower.ensures c.if-lower-distance.true

pub farthest-requires : goal.farthest-requires
farthest-requires c =
    let pre = c.requires in (pre.0, pre.1)

pub returns : goal.returns
returns c =
    c.farthest.ensures
