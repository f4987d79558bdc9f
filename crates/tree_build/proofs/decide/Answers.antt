use Rattle.tree_build.proofs.Keys.{plan-few, plan-many}
use Rattle.tree_split.specs.Build.{box_at, Fits}
use Rattle.tree_sort.proofs.Sorted.{each-sorted}
use Rattle.lists.specs.Lists.{Each}
use Prim.Native.Nat.{ℕ}
use mathlib.Core.List.{List}
use mathlib.Core.Path.{subst⁻¹}
use native.Mathlib.Omega.{arith}
use Rattle.tree_build.proofs.decide.Goals as goal

pub hull-bx-requires : goal.hull-bx-requires
hull-bx-requires c =
    let pre = c.requires in (pre.0, pre.1)

pub returns-then-order-le2 : goal.returns-then-order-le2
returns-then-order-le2 c =
    let args = c.args in plan-few (box_at args.boxes.now) args.order.now _ c.hull-bx.ensures c.if-order-le2.true

pub spread-requires : goal.spread-requires
spread-requires c =
    let pre = c.requires in (pre.0, pre.1)

pub arrange-requires : goal.arrange-requires
arrange-requires c =
    let pre = c.requires in (pre.0, pre.2, pre.3, pre.4)

pub split_at-at-requires : goal.split_at-at-requires
split_at-at-requires c =
    let args = c.args in let pre = c.requires in (subst⁻¹ (λ (l : List ℕ). Each (Fits args.boxes.now) l) c.arrange.ensures (each-sorted _ _ _ pre.0), omega (arith, c.arrange.auto.order, c.if-order-le2.false), omega (arith, c.arrange.auto.order, pre.2), omega (arith, c.arrange.auto.work, pre.3))

pub returns : goal.returns
returns c =
    let args = c.args in plan-many (box_at args.boxes.now) args.order.now _ c.hull-bx.ensures c.if-order-le2.false _ _ c.spread.ensures c.longest_axis-axis.ensures _ c.arrange.ensures _ c.split_at-at.ensures
