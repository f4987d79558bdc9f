use Rattle.tree_split.proofs.Sweeps.{hulled-start, hulled-turn, hulled-end}
use Rattle.tree_split.specs.Build.{box_at}
use Rattle.tree_split.proofs.hull.Goals as goal

pub loop-i-init : goal.loop-i-init
loop-i-init c =
    hulled-start (box_at _) _ _ c.requires.1 c.solid_box-b.ensures

pub loop-i-preserved : goal.loop-i-preserved
loop-i-preserved c =
    hulled-turn (box_at _) _ _ _ _ _ c.loop-i.invariant c.loop-i-test.true c.solid_box.ensures c.extend-b.ensures

pub returns : goal.returns
returns c =
    hulled-end (box_at _) _ _ _ c.loop-i.invariant c.loop-i-test.false
