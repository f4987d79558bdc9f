use Rattle.tree_split.proofs.Sweeps.{hulled-start, hulled-turn, hulled-end}
use Rattle.tree_split.specs.Build.{box_at, middle_box}
use Rattle.tree_split.proofs.spread.Goals as goal

pub loop-i-init : goal.loop-i-init
loop-i-init c =
    hulled-start (λ i. middle_box (box_at _ i)) _ _ c.requires.1 c.solid_middle-b.ensures

pub loop-i-preserved : goal.loop-i-preserved
loop-i-preserved c =
    hulled-turn (λ i. middle_box (box_at _ i)) _ _ _ _ _ c.loop-i.invariant c.loop-i-test.true c.solid_middle.ensures c.extend-b.ensures

pub returns : goal.returns
returns c =
    hulled-end (λ i. middle_box (box_at _ i)) _ _ _ c.loop-i.invariant c.loop-i-test.false
