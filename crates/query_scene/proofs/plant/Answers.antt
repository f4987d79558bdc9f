use Rattle.query_scene.proofs.Plants.{built-so, planted-from, crowded}
use Rattle.tree_split.specs.Build.{box_at}
use Rattle.tree_nodes.specs.Nodes.{places_of}
use lib.Seq.{length-take-le}
use lib.ListN.{length, take}
use native.Mathlib.Omega.{arith}
use mathlib.Core.Path.{◌∙◌}
use Rattle.query_scene.proofs.plant.Goals as goal

pub returns-then-order-n : goal.returns-then-order-n
returns-then-order-n c =
    let args = c.args in let pre = c.requires in crowded (box_at args.boxes.now) (take args.n args.listed.now) (places_of args.node_boxes.now args.node_marks.now) (length args.node_boxes.now) (length args.node_marks.now) (length args.order.now) (omega (arith, c.if-order-n.true, length-take-le args.n args.listed.now pre.0)) c.clear_all.ensures.node_boxes_after c.clear_all.ensures.node_marks_after c.clear_all.ensures.order_after

pub copy-requires : goal.copy-requires
copy-requires c =
    let pre = c.requires in (pre.0, omega (arith, c.if-order-n.false))

pub build_tree-requires : goal.build_tree-requires
build_tree-requires c =
    let pre = c.requires in (omega (arith, c.if-order-n.false, c.copy.auto.to), pre.1.0, rw c.copy.ensures pre.1.1)

pub returns : goal.returns
returns c =
    let args = c.args in let pre = c.requires in planted-from (box_at args.boxes.now) (take args.n args.listed.now) (places_of args.node_boxes.now args.node_marks.now) (length args.node_boxes.now) (length args.node_marks.now) (length args.order.now) c.copy.ensures c.copy.auto.to (omega (arith, c.if-order-n.false, length-take-le args.n args.listed.now pre.0)) c.build_tree.ensures (c.ok_or.ensures.value ∙ built-so _)
