use Rattle.tree_build.proofs.Keys.{split-large, split-kept, split-small}
use Rattle.tree_split.proofs.Sweeps.{count-float}
use Rattle.tree_split.specs.Build.{box_at}
use native.Mathlib.Omega.{arith}
use Rattle.tree_build.proofs.split_at.Goals as goal

pub right_areas-requires : goal.right_areas-requires
right_areas-requires c =
    let pre = c.requires in (pre.0, pre.1, omega (arith, pre.2, pre.3), pre.2)

pub best_split-best-requires : goal.best_split-best-requires
best_split-best-requires c =
    let pre = c.requires in (pre.0, pre.1, pre.2, omega (arith, pre.2, pre.3, c.right_areas.auto.right), c.right_areas.ensures)

pub returns-then-n-gt8 : goal.returns-then-n-gt8
returns-then-n-gt8 c =
    let args = c.args in split-large (box_at args.boxes.now) args.order.now args.bx _ c.best_split-best.ensures c.if-n-gt8.true

pub int_to_float-n : goal.int_to_float-n
int_to_float-n c =
    let pre = c.requires in count-float _ pre.2

pub returns-then-best-a : goal.returns-then-best-a
returns-then-best-a c =
    let args = c.args in split-kept (box_at args.boxes.now) args.order.now args.bx _ c.best_split-best.ensures _ c.surface_area-a.ensures c.if-n-gt8.false c.if-best-a.true

pub returns : goal.returns
returns c =
    let args = c.args in split-small (box_at args.boxes.now) args.order.now args.bx _ c.best_split-best.ensures _ c.surface_area-a.ensures c.if-n-gt8.false c.if-best-a.false
