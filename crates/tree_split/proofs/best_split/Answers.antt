use Rattle.tree_split.proofs.Sweeps.{besting-start, besting-turn, besting-end}
use Rattle.tree_split.specs.Build.{box_at}
use native.Mathlib.Omega.{arith}
use mathlib.Core.Path.{refl}
use borrow.Author.Rules.{rules}
use Rattle.tree_split.proofs.best_split.Goals as goal

pub loop-i-init : goal.loop-i-init
loop-i-init c =
    besting-start (box_at _) _ _ (search rules) c.solid_box-left.ensures

pub bounds-right-i : goal.bounds-right-i
bounds-right-i c =
    let pre = c.requires in omega (arith, pre.3, c.loop-i-test.true, c.loop-i.invariant.whole)

pub cost-c-requires : goal.cost-c-requires
cost-c-requires c =
    let pre = c.requires in (omega (arith, pre.2, c.loop-i-test.true, c.loop-i.invariant.whole), omega (arith, pre.2, c.loop-i.invariant.whole))

pub loop-i-preserved : goal.loop-i-preserved
loop-i-preserved c =
    let args = c.args in let pre = c.requires in besting-turn (box_at _) _ args.right.now _ _ _ _ _ _ _ _ _ c.loop-i.invariant pre.4 c.loop-i-test.true refl c.cost-c.ensures c.better-best.ensures c.solid_box.ensures c.extend-left.ensures

pub returns : goal.returns
returns c =
    besting-end (box_at _) _ _ _ _ _ c.loop-i.invariant c.loop-i-test.false
