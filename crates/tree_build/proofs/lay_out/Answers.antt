use Rattle.tree_build.proofs.Whole.{laid_out}
use lib.Seq.{length-take-le}
use native.Mathlib.Omega.{arith}
use Prim.Native.Nat.{◌*◌}
use mathlib.Core.Path.{sym}
use Rattle.tree_build.proofs.lay_out.Goals as goal

pub slice_bounds-build-end-2 : goal.slice_bounds-build-end-2
slice_bounds-build-end-2 c =
    let args = c.args in let pre = c.requires in sym (length-take-le (args.places * 6) args.node_boxes.now pre.4)

pub slice_bounds-build-end-4 : goal.slice_bounds-build-end-4
slice_bounds-build-end-4 c =
    let args = c.args in let pre = c.requires in sym (length-take-le (args.places * 3) args.node_marks.now pre.5)

pub build-requires : goal.build-requires
build-requires c =
    let args = c.args in let pre = c.requires in (pre.0, record { long = omega (arith, length-take-le (args.places * 6) args.node_boxes.now pre.4); wide = omega (arith, length-take-le (args.places * 3) args.node_marks.now pre.5); early = omega arith; within = omega (arith, pre.3); some = pre.1; upto = omega (arith, pre.2); short = omega (arith, pre.2) }, omega arith, omega arith)

pub returns : goal.returns
returns c =
    let args = c.args in let pre = c.requires in let a = args in let p = pre in laid_out a.places a.node_boxes.now c.build.new.node_boxes a.node_marks.now c.build.new.node_marks p.4 p.5 p.6 p.7 c.build.auto.node_boxes c.build.auto.node_marks c.build.new.order _ c.build.result c.build.ensures
