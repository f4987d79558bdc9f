use Rattle.std.proofs.Common.{arith}
use Rattle.tree_nodes.proofs.Nodes.{places-fit}
use Rattle.tree_trust.proofs.Counting.{nodes-gone}
use Rattle.tree_trust.proofs.Looking.{counted-few, counted-there, second-counted, looked-box, looked-marks, looked-unsound, looked-leaf, looked-deep, looked-none, looked-many, looked-outside, looked-outside-2, looked-split}
use Rattle.tree_trust.proofs.+nodes_from.Goals as goal

pub returns-then-i-many : goal.returns-then-i-many
returns-then-i-many t c =
    nodes-gone _ _ _ _ c.if-i-many.true

pub read_box-p-requires : goal.read_box-p-requires
read_box-p-requires t c =
    looked-box _ _ _ _ c.if-i-many.false c.requires

pub returns-then-not-sound : goal.returns-then-not-sound
returns-then-not-sound t c =
    looked-unsound _ _ _ _ c.if-i-many.false _ c.read_box-p.ensures _ c.sound.ensures c.if-not-sound.true _

pub read_triple-n-requires : goal.read_triple-n-requires
read_triple-n-requires t c =
    looked-marks _ _ _ _ c.if-i-many.false c.requires

pub returns-then-is_leaf : goal.returns-then-is_leaf
returns-then-is_leaf t c =
    looked-leaf _ _ _ _ c.if-i-many.false _ c.read_box-p.ensures _ c.sound.ensures c.if-not-sound.false _ c.read_triple-n.ensures _ c.is_leaf.ensures c.if-is_leaf.true _

pub returns-then-depth-eq0 : goal.returns-then-depth-eq0
returns-then-depth-eq0 t c =
    looked-deep _ _ _ _ c.if-i-many.false _ c.read_box-p.ensures _ c.sound.ensures c.if-not-sound.false _ c.read_triple-n.ensures _ c.is_leaf.ensures c.if-is_leaf.false _ c.if-depth-eq0.true

pub returns-then-a-eq0 : goal.returns-then-a-eq0
returns-then-a-eq0 t c =
    looked-none _ _ _ _ c.if-i-many.false _ c.read_box-p.ensures _ c.sound.ensures c.if-not-sound.false _ c.read_triple-n.ensures _ c.is_leaf.ensures c.if-is_leaf.false _ c.index-first.ensures.0 _ _ (omega (arith, c.if-depth-eq0.false)) _ c.nodes_from-a.ensures c.if-a-eq0.true

pub joined-m-requires : goal.joined-m-requires
joined-m-requires t c =
    (counted-few _ _ _ _ _ _ c.nodes_from-a.ensures, counted-few _ _ _ _ _ _ c.nodes_from-b.ensures, omega (arith, c.requires, (places-fit c.args.boxes.now c.args.links.now).0, c.well_formed.0.1))

pub returns-then-m-eq0 : goal.returns-then-m-eq0
returns-then-m-eq0 t c =
    looked-many _ _ _ _ c.if-i-many.false _ c.read_box-p.ensures _ c.sound.ensures c.if-not-sound.false _ c.read_triple-n.ensures _ c.is_leaf.ensures c.if-is_leaf.false _ c.index-first.ensures.0 _ _ (omega (arith, c.if-depth-eq0.false)) _ c.nodes_from-a.ensures _ c.nodes_from-b.ensures _ c.joined-m.ensures c.if-m-eq0.true

pub read_box-requires : goal.read_box-requires
read_box-requires t c =
    counted-there _ _ _ _ _ _ c.nodes_from-a.ensures c.requires (omega (arith, c.if-a-eq0.false))

pub returns-then-not-lies_in : goal.returns-then-not-lies_in
returns-then-not-lies_in t c =
    looked-outside _ _ _ _ c.if-i-many.false _ c.read_box-p.ensures _ c.sound.ensures c.if-not-sound.false _ c.read_triple-n.ensures _ c.is_leaf.ensures c.if-is_leaf.false _ c.index-first.ensures.0 _ _ (omega (arith, c.if-depth-eq0.false)) _ c.nodes_from-a.ensures _ c.nodes_from-b.ensures _ c.joined-m.ensures _ c.read_box.ensures _ c.lies_in.ensures c.if-not-lies_in.true

pub read_box-requires-2 : goal.read_box-requires-2
read_box-requires-2 t c =
    counted-there _ _ _ _ _ _ c.nodes_from-b.ensures c.requires (second-counted _ _ _ _ c.joined-m.ensures (omega (arith, c.if-m-eq0.false)))

pub returns-then-not-lies_in-2 : goal.returns-then-not-lies_in-2
returns-then-not-lies_in-2 t c =
    looked-outside-2 _ _ _ _ c.if-i-many.false _ c.read_box-p.ensures _ c.sound.ensures c.if-not-sound.false _ c.read_triple-n.ensures _ c.is_leaf.ensures c.if-is_leaf.false _ c.index-first.ensures.0 _ _ (omega (arith, c.if-depth-eq0.false)) _ c.nodes_from-a.ensures _ c.nodes_from-b.ensures _ c.joined-m.ensures _ c.read_box.ensures _ c.lies_in.ensures c.if-not-lies_in.false _ c.read_box-2.ensures _ c.lies_in-2.ensures c.if-not-lies_in-2.true

pub returns : goal.returns
returns t c =
    looked-split _ _ _ _ c.if-i-many.false _ c.read_box-p.ensures _ c.sound.ensures c.if-not-sound.false _ c.read_triple-n.ensures _ c.is_leaf.ensures c.if-is_leaf.false _ c.index-first.ensures.0 _ _ (omega (arith, c.if-depth-eq0.false)) _ c.nodes_from-a.ensures _ c.nodes_from-b.ensures _ c.joined-m.ensures _ c.read_box.ensures _ c.lies_in.ensures c.if-not-lies_in.false _ c.read_box-2.ensures _ c.lies_in-2.ensures c.if-not-lies_in-2.false
