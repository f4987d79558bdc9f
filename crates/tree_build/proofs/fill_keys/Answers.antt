use Rattle.tree_build.proofs.Keys.{keyed-start, keyed-turn}
use Rattle.lists.proofs.Properties.{each_at}
use lib.ListN.{length, length-set}
use mathlib.Core.Path.{◌≡◌, refl, ◌∙◌}
use native.Mathlib.Omega.{arith}
use Rattle.tree_build.proofs.fill_keys.Goals as goal

pub loop-i-init : goal.loop-i-init
loop-i-init c =
    (keyed-start _ _ _ _ c.requires.1, omega arith, refl)

pub overflow_cast-s : goal.overflow_cast-s
overflow_cast-s c =
    let pre = c.requires in omega (arith, each_at _ _ _ pre.0 c.loop-i-test.true)

pub read_box-requires : goal.read_box-requires
read_box-requires c =
    let pre = c.requires in (each_at _ _ _ pre.0 c.loop-i-test.true).there

pub offset_bounds-keys-s : goal.offset_bounds-keys-s
offset_bounds-keys-s c =
    let pre = c.requires in omega (arith, each_at _ _ _ pre.0 c.loop-i-test.true)

pub bounds-keys-s : goal.bounds-keys-s
bounds-keys-s c =
    let pre = c.requires in omega (arith, each_at _ _ _ pre.0 c.loop-i-test.true, c.loop-i.invariant.0.long)

pub loop-i-preserved : goal.loop-i-preserved
loop-i-preserved c =
    let pre = c.requires in (keyed-turn _ _ _ _ _ _ c.loop-i.invariant.0 pre.0 c.loop-i-test.true (c.on_axis.ensures ∙ rw (c.centroid-c.ensures, c.read_box.ensures)), omega (arith, c.loop-i-test.true), simp length-set c.loop-i.invariant.2)

pub shape_of-keys : goal.shape_of-keys
shape_of-keys c =
    c.loop-i.invariant.2

pub returns : goal.returns
returns c =
    let args = c.args in let e : c.loop-i.i ≡ length args.order.now = omega (arith, c.loop-i.invariant.1, c.loop-i-test.false) in rw (← e) c.loop-i.invariant.0
