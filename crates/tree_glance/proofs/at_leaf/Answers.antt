use mathlib.Core.Path.{refl}
use native.Mathlib.Omega.{arith}
use Rattle.tree_glance.proofs.Spots.{enters-before, leaf-short, leaf-late, leaf-clear, leaf-unknown, clear-far, shorter}
use Rattle.tree_glance.proofs.at_leaf.Goals as goal

pub spot-a-requires : goal.spot-a-requires
spot-a-requires c =
    let pre = c.requires in pre.0

pub enters-requires : goal.enters-requires
enters-requires c =
    let pre = c.requires in pre.1

pub bounds-cover-0 : goal.bounds-cover-0
bounds-cover-0 c =
    let pre = c.requires in omega (arith, pre.2)

pub returns-then-enters : goal.returns-then-enters
returns-then-enters c =
    let args = c.args in let pre = c.requires in record { value = leaf-short _ _ c.spot-a.ensures _ c.in-Short.is _ _ c.enters.ensures c.if-enters.true; leaf_told = shorter _ _ _ _ _ _ _ _ c.spot-a.ensures _ c.in-Short.is (enters-before _ _ _ _ _ c.enters.ensures c.if-enters.true) args.cover.now pre.2 _ c.index.ensures.0 }

pub returns-in-Unknown : goal.returns-in-Unknown
returns-in-Unknown c =
    record { value = leaf-unknown _ _ c.spot-a.ensures _ c.in-Unknown.is; leaf_told = refl }

pub returns-in-Clear : goal.returns-in-Clear
returns-in-Clear c =
    record { value = leaf-clear _ _ c.spot-a.ensures _ c.in-Clear.is; leaf_told = (refl, clear-far _ _ _ _ _ c.spot-a.ensures c.in-Clear.is) }

pub returns-else-enters : goal.returns-else-enters
returns-else-enters c =
    record { value = leaf-late _ _ c.spot-a.ensures _ c.in-Short.is _ _ c.enters.ensures c.if-enters.false; leaf_told = refl }
