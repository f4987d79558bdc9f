use Rattle.std.proofs.lemmas.Result.{err_from_is_err_and}
use mathlib.Core.Path.{refl}
use native.Mathlib.Omega.{arith}
use Rattle.tree_walk.specs.Walks.{walk_rows}
use native.Mathlib.Nat.{sub-zero}
use Rattle.tree_walk.proofs.Rounds.{round-left, walking_start, walking-empty, walking-end, walking-gone, walking-box, walking-marks, walking_skip, walking-into, walking-past, walking-full, walking-down}
use Rattle.tree_walk.proofs.Turns.{walk-rounds, leaf-refused, leaf-passed}
use Rattle.tree_walk.proofs.intersect.Goals as goal

pub loop-init : goal.loop-init
unfolding walk_rows
loop-init c =
    rw sub-zero (walking_start refl c.places-many.ensures refl refl c.nothing-best.ensures)

pub returns-then-sp-eq0 : goal.returns-then-sp-eq0
returns-then-sp-eq0 c =
    walking-empty (walk-rounds _ _ _ _ _) c.loop.invariant c.if-sp-eq0.true

pub overflow_sub-sp : goal.overflow_sub-sp
overflow_sub-sp c =
    omega (arith, c.if-sp-eq0.false)

pub bounds-stack-sp : goal.bounds-stack-sp
bounds-stack-sp c =
    omega (arith, c.if-sp-eq0.false, c.loop.invariant.low, c.loop.invariant.broad)

pub loop-preserved-then-i-many : goal.loop-preserved-then-i-many
loop-preserved-then-i-many c =
    rw (round-left _ c.loop.counter) (walking-gone (walk-rounds _ _ _ _ _) c.loop.invariant (omega (arith, c.loop-test.true)) c.if-sp-eq0.false c.if-i-many.true)

pub skip_row-requires : goal.skip_row-requires
skip_row-requires c =
    walking-box (walk-rounds _ _ _ _ _) c.loop.invariant (omega (arith, c.loop-test.true)) c.if-sp-eq0.false c.if-i-many.false

pub loop-preserved-then-skip_row : goal.loop-preserved-then-skip_row
loop-preserved-then-skip_row c =
    rw (round-left _ c.loop.counter) (walking_skip (walk-rounds _ _ _ _ _) c.loop.invariant (omega (arith, c.loop-test.true)) c.if-sp-eq0.false c.if-i-many.false
    _ _ refl c.skip_row.ensures c.if-skip_row.true)

pub read_triple-n-requires : goal.read_triple-n-requires
read_triple-n-requires c =
    walking-marks (walk-rounds _ _ _ _ _) c.loop.invariant (omega (arith, c.loop-test.true)) c.if-sp-eq0.false c.if-i-many.false

pub scan-requires : goal.scan-requires
scan-requires c =
    omega (arith, c.index-first.ensures.1, c.index.ensures.1)

pub returns-in_err-best : goal.returns-in_err-best
returns-in_err-best c =
    let p = err_from_is_err_and c.from_residual.result c.from_residual.ensures.1 in
    rw (p.1, p.2) (leaf-refused _ _ c.scan.ensures _ _
    (walking-into (walk-rounds _ _ _ _ _) c.loop.invariant (omega (arith, c.loop-test.true)) c.if-sp-eq0.false c.if-i-many.false
    _ _ refl c.skip_row.ensures c.if-skip_row.false _ c.read_triple-n.ensures _ c.is_leaf.ensures
    _ c.index-first.ensures.0 _ c.index.ensures.0 c.if-is_leaf.true)
    _ c.in_err-best.was)

pub loop-preserved-then-is_leaf : goal.loop-preserved-then-is_leaf
loop-preserved-then-is_leaf c =
    rw (round-left _ c.loop.counter) (walking-past (walk-rounds _ _ _ _ _) c.loop.invariant (omega (arith, c.loop-test.true)) c.if-sp-eq0.false
    (leaf-passed _ _ c.scan.ensures _ _
    (walking-into (walk-rounds _ _ _ _ _) c.loop.invariant (omega (arith, c.loop-test.true)) c.if-sp-eq0.false c.if-i-many.false
    _ _ refl c.skip_row.ensures c.if-skip_row.false _ c.read_triple-n.ensures _ c.is_leaf.ensures
    _ c.index-first.ensures.0 _ c.index.ensures.0 c.if-is_leaf.true)
    _ c.in_ok-best.was))

pub returns-then-sp-gt62 : goal.returns-then-sp-gt62
returns-then-sp-gt62 c =
    walking-full (walk-rounds _ _ _ _ _) c.loop.invariant (omega (arith, c.loop-test.true)) c.if-sp-eq0.false c.if-i-many.false
    _ _ refl c.skip_row.ensures c.if-skip_row.false _ c.read_triple-n.ensures _ c.is_leaf.ensures
    _ c.index-first.ensures.0 c.if-is_leaf.false (omega (arith, c.if-sp-gt62.true))

pub sided-c-requires : goal.sided-c-requires
sided-c-requires c =
    c.index-first.ensures.1

pub offset_bounds-stack-sp-in-loop : goal.offset_bounds-stack-sp-in-loop
offset_bounds-stack-sp-in-loop c =
    omega (arith, c.if-sp-gt62.false, c.loop.invariant.broad)

pub bounds-stack-sp-in-loop : goal.bounds-stack-sp-in-loop
bounds-stack-sp-in-loop c =
    omega (arith, c.if-sp-gt62.false, c.loop.invariant.broad)

pub overflow_add-stack : goal.overflow_add-stack
overflow_add-stack c =
    omega (arith, c.if-sp-gt62.false, c.loop.invariant.broad)

pub offset_bounds-stack-sp-in-loop-2 : goal.offset_bounds-stack-sp-in-loop-2
offset_bounds-stack-sp-in-loop-2 c =
    omega (arith, c.if-sp-gt62.false, c.loop.invariant.broad)

pub bounds-stack-sp-in-loop-2 : goal.bounds-stack-sp-in-loop-2
bounds-stack-sp-in-loop-2 c =
    omega (arith, c.if-sp-gt62.false, c.loop.invariant.broad)

pub overflow_add-sp : goal.overflow_add-sp
overflow_add-sp c =
    omega (arith, c.if-sp-gt62.false)

pub loop-preserved : goal.loop-preserved
loop-preserved c =
    rw (round-left _ c.loop.counter) (walking-down (walk-rounds _ _ _ _ _) c.loop.invariant (omega (arith, c.loop-test.true)) c.if-sp-eq0.false c.if-i-many.false
    _ _ refl c.skip_row.ensures c.if-skip_row.false _ c.read_triple-n.ensures _ c.is_leaf.ensures
    _ c.index-first.ensures.0 c.if-is_leaf.false (omega (arith, c.if-sp-gt62.false)) _ c.backward.ensures _ c.sided-c.ensures)

pub returns : goal.returns
returns c =
    walking-end (walk-rounds _ _ _ _ _) c.loop.invariant (omega (arith, c.loop-test.false))
