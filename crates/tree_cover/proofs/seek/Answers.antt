use Rattle.std.proofs.lemmas.Result.{err_from_is_err_and}
use mathlib.Core.Path.{refl}
use native.Mathlib.Omega.{arith}
use Rattle.tree_walk.proofs.Rounds.{walking_start, walking-empty, walking-end, walking-gone, walking-box, walking-marks, walking_skip, walking-into, walking-past, walking-full, walking-down}
use Rattle.tree_cover.specs.Seeking.{seek_rows}
use Rattle.tree_cover.proofs.Turns.{seek-rounds, leafing-start, leafing-end, leafing-refused, leafing-short, leafing-turn}
use Rattle.tree_cover.proofs.seek.Goals as goal

pub walk-init : goal.walk-init
unfolding seek_rows
walk-init c =
    walking_start refl c.places-many.ensures refl refl c.nothing-best.ensures

pub returns-then-rounds-eq0 : goal.returns-then-rounds-eq0
returns-then-rounds-eq0 c =
    walking-end (seek-rounds _ _ _ _ _ _) c.walk.invariant c.if-rounds-eq0.true

pub overflow_sub-rounds : goal.overflow_sub-rounds
overflow_sub-rounds c =
    omega (arith, c.if-rounds-eq0.false)

pub returns-then-sp-eq0 : goal.returns-then-sp-eq0
returns-then-sp-eq0 c =
    walking-empty (seek-rounds _ _ _ _ _ _) c.walk.invariant c.if-sp-eq0.true

pub overflow_sub-sp : goal.overflow_sub-sp
overflow_sub-sp c =
    omega (arith, c.if-sp-eq0.false)

pub bounds-stack-sp : goal.bounds-stack-sp
bounds-stack-sp c =
    omega (arith, c.if-sp-eq0.false, c.walk.invariant.low, c.walk.invariant.broad)

pub walk-smaller-then-i-many : goal.walk-smaller-then-i-many
walk-smaller-then-i-many c =
    omega (arith, c.if-rounds-eq0.false)

pub walk-preserved-then-i-many : goal.walk-preserved-then-i-many
walk-preserved-then-i-many c =
    walking-gone (seek-rounds _ _ _ _ _ _) c.walk.invariant (omega (arith, c.if-rounds-eq0.false)) c.if-sp-eq0.false c.if-i-many.true

pub read_box-bx-requires : goal.read_box-bx-requires
read_box-bx-requires c =
    walking-box (seek-rounds _ _ _ _ _ _) c.walk.invariant (omega (arith, c.if-rounds-eq0.false)) c.if-sp-eq0.false c.if-i-many.false

pub walk-smaller-then-skip : goal.walk-smaller-then-skip
walk-smaller-then-skip c =
    omega (arith, c.if-rounds-eq0.false)

pub walk-preserved-then-skip : goal.walk-preserved-then-skip
walk-preserved-then-skip c =
    walking_skip (seek-rounds _ _ _ _ _ _) c.walk.invariant (omega (arith, c.if-rounds-eq0.false)) c.if-sp-eq0.false c.if-i-many.false _ _ c.read_box-bx.ensures c.skip.ensures c.if-skip.true

pub read_triple-n-requires : goal.read_triple-n-requires
read_triple-n-requires c =
    walking-marks (seek-rounds _ _ _ _ _ _) c.walk.invariant (omega (arith, c.if-rounds-eq0.false)) c.if-sp-eq0.false c.if-i-many.false

pub leaf_end-last-requires : goal.leaf_end-last-requires
leaf_end-last-requires c =
    omega (arith, c.index-first.ensures.1, c.index.ensures.1)

pub loop-at-init : goal.loop-at-init
loop-at-init c =
    leafing-start _ _ _ _ _ _ _ _ _ c.leaf_end-last.ensures (walking-into (seek-rounds _ _ _ _ _ _) c.walk.invariant (omega (arith, c.if-rounds-eq0.false)) c.if-sp-eq0.false c.if-i-many.false _ _ c.read_box-bx.ensures c.skip.ensures c.if-skip.false _ c.read_triple-n.ensures _ c.is_leaf.ensures _ c.index-first.ensures.0 _ c.index.ensures.0 c.if-is_leaf.true)

pub offset_bounds-order-at : goal.offset_bounds-order-at
offset_bounds-order-at c =
    let good = c.well_formed in omega (arith, c.loop-at.invariant.inside, c.loop-at-test.true, good.1.1.1.1.1.0.1)

pub bounds-order-at : goal.bounds-order-at
bounds-order-at c =
    omega (arith, c.loop-at.invariant.inside, c.loop-at-test.true)

pub returns-in_err-h : goal.returns-in_err-h
returns-in_err-h c =
    let p = err_from_is_err_and c.from_residual.result c.from_residual.ensures.1 in
    rw (p.1, p.2) (leafing-refused _ _ _ _ _ _ _ _ c.loop-at.invariant c.loop-at-test.true _ _ _ refl c.index-in-loop-at.ensures.0 c.entry_hit.ensures _ c.in_err-h.was)

pub loop-at-smaller : goal.loop-at-smaller
loop-at-smaller c =
    omega (arith, c.loop-at-test.true)

pub loop-at-preserved : goal.loop-at-preserved
loop-at-preserved c =
    leafing-turn _ _ _ _ _ _ _ _ c.loop-at.invariant c.loop-at-test.true _ _ _ refl c.index-in-loop-at.ensures.0 c.entry_hit.ensures _ c.in_ok-h.was c.if-h-far.false _ c.nearer-best.ensures

pub walk-smaller-then-is_leaf : goal.walk-smaller-then-is_leaf
walk-smaller-then-is_leaf c =
    omega (arith, c.if-rounds-eq0.false)

pub walk-preserved-then-is_leaf : goal.walk-preserved-then-is_leaf
walk-preserved-then-is_leaf c =
    walking-past (seek-rounds _ _ _ _ _ _) c.walk.invariant (omega (arith, c.if-rounds-eq0.false)) c.if-sp-eq0.false (leafing-end _ _ _ _ _ _ _ _ c.loop-at.invariant c.loop-at-test.false)

pub returns-then-sp-gt62 : goal.returns-then-sp-gt62
returns-then-sp-gt62 c =
    walking-full (seek-rounds _ _ _ _ _ _) c.walk.invariant (omega (arith, c.if-rounds-eq0.false)) c.if-sp-eq0.false c.if-i-many.false _ _ c.read_box-bx.ensures c.skip.ensures c.if-skip.false _ c.read_triple-n.ensures _ c.is_leaf.ensures _ c.index-first.ensures.0 c.if-is_leaf.false (omega (arith, c.if-sp-gt62.true))

pub sided-c-requires : goal.sided-c-requires
sided-c-requires c =
    c.index-first.ensures.1

pub offset_bounds-stack-sp-in-walk : goal.offset_bounds-stack-sp-in-walk
offset_bounds-stack-sp-in-walk c =
    omega (arith, c.if-sp-gt62.false, c.walk.invariant.broad)

pub bounds-stack-sp-in-walk : goal.bounds-stack-sp-in-walk
bounds-stack-sp-in-walk c =
    omega (arith, c.if-sp-gt62.false, c.walk.invariant.broad)

pub overflow_add-stack : goal.overflow_add-stack
overflow_add-stack c =
    omega (arith, c.if-sp-gt62.false, c.walk.invariant.broad)

pub offset_bounds-stack-sp-in-walk-2 : goal.offset_bounds-stack-sp-in-walk-2
offset_bounds-stack-sp-in-walk-2 c =
    omega (arith, c.if-sp-gt62.false, c.walk.invariant.broad)

pub bounds-stack-sp-in-walk-2 : goal.bounds-stack-sp-in-walk-2
bounds-stack-sp-in-walk-2 c =
    omega (arith, c.if-sp-gt62.false, c.walk.invariant.broad)

pub overflow_add-sp : goal.overflow_add-sp
overflow_add-sp c =
    omega (arith, c.if-sp-gt62.false)

pub walk-smaller : goal.walk-smaller
walk-smaller c =
    omega (arith, c.if-rounds-eq0.false)

pub walk-preserved : goal.walk-preserved
walk-preserved c =
    walking-down (seek-rounds _ _ _ _ _ _) c.walk.invariant (omega (arith, c.if-rounds-eq0.false)) c.if-sp-eq0.false c.if-i-many.false _ _ c.read_box-bx.ensures c.skip.ensures c.if-skip.false _ c.read_triple-n.ensures _ c.is_leaf.ensures _ c.index-first.ensures.0 c.if-is_leaf.false (omega (arith, c.if-sp-gt62.false)) _ c.backward.ensures _ c.sided-c.ensures

pub returns : goal.returns
returns c =
    leafing-short _ _ _ _ _ _ _ _ c.loop-at.invariant c.loop-at-test.true _ _ _ refl c.index-in-loop-at.ensures.0 c.entry_hit.ensures _ c.in_ok-h.was c.if-h-far.true
