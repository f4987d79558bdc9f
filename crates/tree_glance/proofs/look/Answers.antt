use mathlib.Core.Path.{sym, ap, ◌∙◌}
use Rattle.std.specs.Prelude.{Some}
use native.Mathlib.Omega.{arith}
use lib.ListN.{length, length-set}
use Rattle.tree_walk.specs.Walks.{entry_hit}
use Rattle.tree_walk.proofs.Rounds.{round-left}
use Rattle.tree_glance.proofs.Spots.{told-unsure, told_same, told-short}
use Rattle.tree_glance.proofs.Endings.{kept-stack, kept_same}
use Rattle.tree_glance.proofs.Looking.{root-asked, place-fits, place-links, near-asked, far-asked}
use Rattle.tree_glance.proofs.Turns.{turn-missed, turn-start, turn-over, turn-unsure, turn-past, turn_last, turn-kept, turn-calm, turn-hidden, turn-hidden-last, turn-neither, turn-neither-last, turn-far, turn_near, turn-full, turn-both}
use Rattle.tree_glance.proofs.look.Goals as goal

pub missed-requires : goal.missed-requires
missed-requires c =
    let args = c.args in let pre = c.requires in (root-asked (entry_hit args.numbers.now args.inverses.now args.marks.now args.b.ray) args.b.ray args.distance args.node_boxes.now args.node_marks.now args.order.now pre.0).0

pub returns-then-missed : goal.returns-then-missed
returns-then-missed c =
    let pre = c.requires in let said = turn-missed _ _ _ _ _ _ _ pre.0 _ c.missed.ensures pre.2 pre.3 c.if-missed.true in
    (said.0, pre.4, said.1)

pub loop-init : goal.loop-init
loop-init c =
    let pre = c.requires in (turn-start _ _ _ _ _ _ _ pre.0 _ c.missed.ensures _ pre.4.wide_stack c.if-missed.false, pre.4)

pub read_triple-n-requires : goal.read_triple-n-requires
read_triple-n-requires c =
    place-links _ _ _ _ _ _ _ _ _ _ c.loop.invariant.0.place

pub at_leaf-requires : goal.at_leaf-requires
at_leaf-requires c =
    (omega (arith, c.index-first.ensures.1, c.index.ensures.1), place-fits _ _ _ _ _ _ _ _ _ _ c.loop.invariant.0.place, c.loop.invariant.1.wide)

pub returns-in_err-a : goal.returns-in_err-a
returns-in_err-a c =
    rw c.from_residual.ensures (tt, kept_same _ _ _ _ _ c.loop.invariant.1 _ (told-unsure _ _ _ _ _ _ _ _ _ _ c.at_leaf.ensures.leaf_told c.in_err-a.was), (turn-unsure _ _ _ _ _ _ _ _ _ _ _ _ c.loop.invariant.0 (omega (arith, c.loop-test.true)) _ c.read_triple-n.ensures _ c.index-first.ensures.0 _ c.is_leaf.ensures c.if-is_leaf.true _ c.index.ensures.0 _ _ _ c.at_leaf.ensures.value c.at_leaf.ensures.leaf_told c.in_err-a.was).1)

pub returns-then-sp-eq0 : goal.returns-then-sp-eq0
returns-then-sp-eq0 c =
    let pre = c.requires in let said = turn_last _ _ _ _ _ _ _ _ _ _ _ _ c.loop.invariant.0 (omega (arith, c.loop-test.true)) _ c.read_triple-n.ensures _ c.index-first.ensures.0 _ c.is_leaf.ensures c.if-is_leaf.true _ c.index.ensures.0 _ _ _ c.at_leaf.ensures.value c.at_leaf.ensures.leaf_told (c.in_ok-a.was ∙ ap Some c.in-Visible.is) pre.0 pre.2 pre.3 c.if-sp-eq0.true _ c.ended.ensures in
    (said.0, kept_same _ _ _ _ _ c.loop.invariant.1 _ (told_same _ _ _ _ _ _ _ _ _ _ c.at_leaf.ensures.leaf_told (c.in_ok-a.was ∙ ap Some c.in-Visible.is)), said.1)

pub loop-preserved-in-Visible : goal.loop-preserved-in-Visible
loop-preserved-in-Visible c =
    rw (round-left 2048 c.loop.counter) (turn-past _ _ _ _ _ _ _ _ _ _ _ _ c.loop.invariant.0 (omega (arith, c.loop-test.true)) _ c.read_triple-n.ensures _ c.index-first.ensures.0 _ c.is_leaf.ensures c.if-is_leaf.true _ c.index.ensures.0 _ _ _ c.at_leaf.ensures.value c.at_leaf.ensures.leaf_told (c.in_ok-a.was ∙ ap Some c.in-Visible.is) c.if-sp-eq0.false, kept_same _ _ _ _ _ c.loop.invariant.1 _ (told_same _ _ _ _ _ _ _ _ _ _ c.at_leaf.ensures.leaf_told (c.in_ok-a.was ∙ ap Some c.in-Visible.is)))

pub returns-then-calm : goal.returns-then-calm
returns-then-calm c =
    let pre = c.requires in let said = turn-calm _ _ _ _ _ _ _ _ _ _ _ _ c.loop.invariant.0 (omega (arith, c.loop-test.true)) _ c.read_triple-n.ensures _ c.index-first.ensures.0 _ c.is_leaf.ensures c.if-is_leaf.true _ c.index.ensures.0 _ _ _ c.at_leaf.ensures.value c.at_leaf.ensures.leaf_told (c.in_ok-a.was ∙ ap Some c.in-Hidden.is) pre.0 pre.2 pre.3 (λ j. pre.1 c.if-calm.true _ j) c.if-calm.true in
    (said.0, turn-kept _ _ _ _ _ _ _ _ _ _ _ _ c.loop.invariant.0 (omega (arith, c.loop-test.true)) _ c.read_triple-n.ensures _ c.index-first.ensures.0 _ c.is_leaf.ensures c.if-is_leaf.true _ c.index.ensures.0 _ _ _ c.at_leaf.ensures.value c.at_leaf.ensures.leaf_told (c.in_ok-a.was ∙ ap Some c.in-Hidden.is) c.loop.invariant.1.wide_stack, said.1)

pub returns-then-sp-eq0-2 : goal.returns-then-sp-eq0-2
returns-then-sp-eq0-2 c =
    let pre = c.requires in let said = turn-hidden-last _ _ _ _ _ _ _ _ _ _ _ _ c.loop.invariant.0 (omega (arith, c.loop-test.true)) _ c.read_triple-n.ensures _ c.index-first.ensures.0 _ c.is_leaf.ensures c.if-is_leaf.true _ c.index.ensures.0 _ _ _ c.at_leaf.ensures.value c.at_leaf.ensures.leaf_told (c.in_ok-a.was ∙ ap Some c.in-Hidden.is) c.if-calm.false pre.0 pre.2 pre.3 c.if-sp-eq0-2.true in
    (said.0, turn-kept _ _ _ _ _ _ _ _ _ _ _ _ c.loop.invariant.0 (omega (arith, c.loop-test.true)) _ c.read_triple-n.ensures _ c.index-first.ensures.0 _ c.is_leaf.ensures c.if-is_leaf.true _ c.index.ensures.0 _ _ _ c.at_leaf.ensures.value c.at_leaf.ensures.leaf_told (c.in_ok-a.was ∙ ap Some c.in-Hidden.is) c.loop.invariant.1.wide_stack, said.1)

pub loop-preserved-in-Hidden : goal.loop-preserved-in-Hidden
loop-preserved-in-Hidden c =
    rw (round-left 2048 c.loop.counter) (turn-hidden _ _ _ _ _ _ _ _ _ _ _ _ c.loop.invariant.0 (omega (arith, c.loop-test.true)) _ c.read_triple-n.ensures _ c.index-first.ensures.0 _ c.is_leaf.ensures c.if-is_leaf.true _ c.index.ensures.0 _ _ _ c.at_leaf.ensures.value c.at_leaf.ensures.leaf_told (c.in_ok-a.was ∙ ap Some c.in-Hidden.is) c.if-calm.false c.if-sp-eq0-2.false, turn-kept _ _ _ _ _ _ _ _ _ _ _ _ c.loop.invariant.0 (omega (arith, c.loop-test.true)) _ c.read_triple-n.ensures _ c.index-first.ensures.0 _ c.is_leaf.ensures c.if-is_leaf.true _ c.index.ensures.0 _ _ _ c.at_leaf.ensures.value c.at_leaf.ensures.leaf_told (c.in_ok-a.was ∙ ap Some c.in-Hidden.is) c.loop.invariant.1.wide_stack)

pub sided-c-requires : goal.sided-c-requires
sided-c-requires c =
    c.index-first.ensures.1

pub missed-p-requires : goal.missed-p-requires
missed-p-requires c =
    (near-asked _ _ _ _ _ _ _ _ _ _ c.loop.invariant.0.place _ c.read_triple-n.ensures _ c.index-first.ensures.0 _ c.is_leaf.ensures c.if-is_leaf.false _ _ c.sided-c.ensures).0

pub missed-q-requires : goal.missed-q-requires
missed-q-requires c =
    (far-asked _ _ _ _ _ _ _ _ _ _ c.loop.invariant.0.place _ c.read_triple-n.ensures _ c.index-first.ensures.0 _ c.is_leaf.ensures c.if-is_leaf.false _ _ c.sided-c.ensures).0

pub returns-then-sp-eq0-3 : goal.returns-then-sp-eq0-3
returns-then-sp-eq0-3 c =
    let pre = c.requires in let said = turn-neither-last _ _ _ _ _ _ _ _ _ _ _ _ c.loop.invariant.0 (omega (arith, c.loop-test.true)) _ c.read_triple-n.ensures _ c.index-first.ensures.0 _ c.is_leaf.ensures c.if-is_leaf.false _ c.backward.ensures _ c.sided-c.ensures pre.2 _ c.missed-p.ensures _ c.missed-q.ensures c.if-p.true c.if-q.true pre.0 pre.3 c.if-sp-eq0-3.true _ c.ended-then-sp-eq0-3.ensures in
    (said.0, c.loop.invariant.1, said.1)

pub loop-preserved-then-q : goal.loop-preserved-then-q
loop-preserved-then-q c =
    let pre = c.requires in rw (round-left 2048 c.loop.counter) (turn-neither _ _ _ _ _ _ _ _ _ _ _ _ c.loop.invariant.0 (omega (arith, c.loop-test.true)) _ c.read_triple-n.ensures _ c.index-first.ensures.0 _ c.is_leaf.ensures c.if-is_leaf.false _ c.backward.ensures _ c.sided-c.ensures pre.2 _ c.missed-p.ensures _ c.missed-q.ensures c.if-p.true c.if-q.true c.if-sp-eq0-3.false, c.loop.invariant.1)

pub loop-preserved-then-p : goal.loop-preserved-then-p
loop-preserved-then-p c =
    let pre = c.requires in rw (round-left 2048 c.loop.counter) (turn-far _ _ _ _ _ _ _ _ _ _ _ _ c.loop.invariant.0 (omega (arith, c.loop-test.true)) _ c.read_triple-n.ensures _ c.index-first.ensures.0 _ c.is_leaf.ensures c.if-is_leaf.false _ c.backward.ensures _ c.sided-c.ensures pre.2 _ c.missed-p.ensures _ c.missed-q.ensures c.if-p.true c.if-q.false, c.loop.invariant.1)

pub loop-preserved-then-q-2 : goal.loop-preserved-then-q-2
loop-preserved-then-q-2 c =
    let pre = c.requires in rw (round-left 2048 c.loop.counter) (turn_near _ _ _ _ _ _ _ _ _ _ _ _ c.loop.invariant.0 (omega (arith, c.loop-test.true)) _ c.read_triple-n.ensures _ c.index-first.ensures.0 _ c.is_leaf.ensures c.if-is_leaf.false _ c.backward.ensures _ c.sided-c.ensures pre.2 _ c.missed-p.ensures _ c.missed-q.ensures c.if-p.false c.if-q-2.true, c.loop.invariant.1)

pub returns-then-sp-gt63 : goal.returns-then-sp-gt63
returns-then-sp-gt63 c =
    let pre = c.requires in (tt, c.loop.invariant.1, (turn-full _ _ _ _ _ _ _ _ _ _ _ _ c.loop.invariant.0 (omega (arith, c.loop-test.true)) _ c.read_triple-n.ensures _ c.index-first.ensures.0 _ c.is_leaf.ensures c.if-is_leaf.false _ c.backward.ensures _ c.sided-c.ensures pre.2 _ c.missed-p.ensures _ c.missed-q.ensures c.if-p.false c.if-q-2.false c.if-sp-gt63.true).1)

pub loop-preserved : goal.loop-preserved
loop-preserved c =
    let pre = c.requires in rw (round-left 2048 c.loop.counter) (turn-both _ _ _ _ _ _ _ _ _ _ _ _ c.loop.invariant.0 (omega (arith, c.loop-test.true)) _ c.read_triple-n.ensures _ c.index-first.ensures.0 _ c.is_leaf.ensures c.if-is_leaf.false _ c.backward.ensures _ c.sided-c.ensures pre.2 _ c.missed-p.ensures _ c.missed-q.ensures c.if-p.false c.if-q-2.false c.loop.invariant.1.wide_stack (omega (arith, c.if-sp-gt63.false)), kept-stack _ _ _ _ _ c.loop.invariant.1 _ (length-set c.loop.stack c.loop.sp c.sided-c.result.far ∙ c.loop.invariant.1.wide_stack))

pub returns : goal.returns
returns c =
    (tt, c.loop.invariant.1, (turn-over _ _ _ _ _ _ _ _ _ _ _ _ c.loop.invariant.0 (omega (arith, c.loop-test.false))).1)

pub bounds-stack-sp : goal.bounds-stack-sp
bounds-stack-sp c =
    omega (arith, c.if-sp-eq0.false, c.loop.invariant.0.place.low, c.loop.invariant.0.place.broad)

pub bounds-stack-sp-in-Hidden : goal.bounds-stack-sp-in-Hidden
bounds-stack-sp-in-Hidden c =
    omega (arith, c.if-sp-eq0-2.false, c.loop.invariant.0.place.low, c.loop.invariant.0.place.broad)

pub bounds-stack-sp-then-q : goal.bounds-stack-sp-then-q
bounds-stack-sp-then-q c =
    omega (arith, c.if-sp-eq0-3.false, c.loop.invariant.0.place.low, c.loop.invariant.0.place.broad)

pub bounds-stack-sp-in-loop : goal.bounds-stack-sp-in-loop
bounds-stack-sp-in-loop c =
    omega (arith, c.if-sp-gt63.false, c.loop.invariant.0.place.broad)

pub offset_bounds-stack-sp-in-loop : goal.offset_bounds-stack-sp-in-loop
offset_bounds-stack-sp-in-loop c =
    omega (arith, c.if-sp-gt63.false)

pub shape_of-cover-then-sp-eq0 : goal.shape_of-cover-then-sp-eq0
shape_of-cover-then-sp-eq0 c =
    let pre = c.requires in ap length (told_same _ _ _ _ _ _ _ _ _ _ c.at_leaf.ensures.leaf_told (c.in_ok-a.was ∙ ap Some c.in-Visible.is)) ∙ c.loop.invariant.1.wide ∙ sym pre.4.wide

pub shape_of-stack-then-sp-eq0 : goal.shape_of-stack-then-sp-eq0
shape_of-stack-then-sp-eq0 c =
    let pre = c.requires in c.loop.invariant.1.wide_stack ∙ sym pre.4.wide_stack

pub shape_of-cover-then-calm : goal.shape_of-cover-then-calm
shape_of-cover-then-calm c =
    let pre = c.requires in (told-short _ _ _ _ _ _ _ _ _ _ c.at_leaf.ensures.leaf_told (c.in_ok-a.was ∙ ap Some c.in-Hidden.is)).wide ∙ sym pre.4.wide

pub shape_of-stack-then-calm : goal.shape_of-stack-then-calm
shape_of-stack-then-calm c =
    let pre = c.requires in c.loop.invariant.1.wide_stack ∙ sym pre.4.wide_stack

pub shape_of-cover-then-sp-eq0-2 : goal.shape_of-cover-then-sp-eq0-2
shape_of-cover-then-sp-eq0-2 c =
    let pre = c.requires in (told-short _ _ _ _ _ _ _ _ _ _ c.at_leaf.ensures.leaf_told (c.in_ok-a.was ∙ ap Some c.in-Hidden.is)).wide ∙ sym pre.4.wide

pub shape_of-stack-then-sp-eq0-2 : goal.shape_of-stack-then-sp-eq0-2
shape_of-stack-then-sp-eq0-2 c =
    let pre = c.requires in c.loop.invariant.1.wide_stack ∙ sym pre.4.wide_stack

pub shape_of-cover-then-sp-eq0-3 : goal.shape_of-cover-then-sp-eq0-3
shape_of-cover-then-sp-eq0-3 c =
    let pre = c.requires in c.loop.invariant.1.wide ∙ sym pre.4.wide

pub shape_of-stack-then-sp-eq0-3 : goal.shape_of-stack-then-sp-eq0-3
shape_of-stack-then-sp-eq0-3 c =
    let pre = c.requires in c.loop.invariant.1.wide_stack ∙ sym pre.4.wide_stack

pub shape_of-cover-then-sp-gt63 : goal.shape_of-cover-then-sp-gt63
shape_of-cover-then-sp-gt63 c =
    let pre = c.requires in c.loop.invariant.1.wide ∙ sym pre.4.wide

pub shape_of-stack-then-sp-gt63 : goal.shape_of-stack-then-sp-gt63
shape_of-stack-then-sp-gt63 c =
    let pre = c.requires in c.loop.invariant.1.wide_stack ∙ sym pre.4.wide_stack

pub shape_of-cover : goal.shape_of-cover
shape_of-cover c =
    let pre = c.requires in c.loop.invariant.1.wide ∙ sym pre.4.wide

pub shape_of-stack : goal.shape_of-stack
shape_of-stack c =
    let pre = c.requires in c.loop.invariant.1.wide_stack ∙ sym pre.4.wide_stack
