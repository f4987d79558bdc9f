use Rattle.tree_split.proofs.Sweeps.{sweeping-start, sweeping-turn}
use Rattle.tree_split.specs.Build.{box_at}
use lib.ListN.{length-set}
use native.Mathlib.Omega.{arith}
use mathlib.Core.Path.{refl, ◌∙◌}
use Rattle.tree_split.proofs.right_areas.Goals as goal

pub offset_bounds-right-last : goal.offset_bounds-right-last
offset_bounds-right-last c =
    let pre = c.requires in omega (arith, pre.3)

pub bounds-right-last : goal.bounds-right-last
bounds-right-last c =
    let pre = c.requires in omega (arith, pre.1, pre.2)

pub loop-i-init : goal.loop-i-init
loop-i-init c =
    let args = c.args in let pre = c.requires in sweeping-start (box_at _) _ args.right.now _ _ _ pre.1 refl pre.2 c.solid_box-b.ensures c.surface_area.ensures

pub offset_bounds-right-i : goal.offset_bounds-right-i
offset_bounds-right-i c =
    let pre = c.requires in omega (arith, pre.3, c.loop-i.invariant.high)

pub bounds-right-i : goal.bounds-right-i
bounds-right-i c =
    omega (arith, c.loop-i.invariant.room, c.loop-i.invariant.same, c.loop-i.invariant.high)

pub loop-i-preserved : goal.loop-i-preserved
loop-i-preserved c =
    sweeping-turn (box_at _) _ _ _ _ _ _ _ _ c.loop-i.invariant c.loop-i-test.true c.solid_box.ensures c.extend-b.ensures c.surface_area-in-loop-i.ensures

pub shape_of-right : goal.shape_of-right
shape_of-right c =
    c.loop-i.invariant.same ∙ simp length-set

pub returns : goal.returns
returns c =
    λ i a b. c.loop-i.invariant.done i (omega (arith, c.loop-i-test.false, c.loop-i.invariant.low)) b
