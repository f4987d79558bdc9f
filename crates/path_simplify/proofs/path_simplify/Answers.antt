use Rattle.path_simplify.proofs.Thinning.{thinning-short, thinning-none, thinning-start, thinning-back, thinning-place, thinning-number, thinning-below, thinning-inside, thinning-split, thinning-full, thinning-write, thinning-end}
use mathlib.Core.Path.{◌∙◌}
use native.Mathlib.Omega.{arith}
use Rattle.path_simplify.proofs.path_simplify.Goals as goal

pub shape_of-out-then-end-from-lt2 : goal.shape_of-out-then-end-from-lt2
shape_of-out-then-end-from-lt2 c =
    c.extend.auto.out

pub returns-then-end-from-lt2 : goal.returns-then-end-from-lt2
returns-then-end-from-lt2 c =
    let args = c.args in let good = c.well_formed in let pre = c.requires in thinning-short args.threshold pre.3 args.path.now args.out.now args.from args.end args.n pre.1 good.0.0 c.if-end-from-lt2.true _ c.extend.ensures

pub returns-then-room-n-lt2 : goal.returns-then-room-n-lt2
returns-then-room-n-lt2 c =
    let args = c.args in let good = c.well_formed in let pre = c.requires in thinning-none args.threshold pre.3 args.path.now args.out.now args.from args.end args.n pre.1 good.0.0 c.if-end-from-lt2.false pre.2 c.if-room-n-lt2.true

pub low_square-low-requires : goal.low_square-low-requires
low_square-low-requires c =
    c.requires.3

pub wait-requires : goal.wait-requires
wait-requires c =
    let good = c.well_formed in let pre = c.requires in (omega (arith, c.if-room-n-lt2.false), omega (arith, good.0.0, pre.1))

pub loop-w-init : goal.loop-w-init
loop-w-init c =
    let args = c.args in let good = c.well_formed in let pre = c.requires in thinning-start args.threshold pre.3 args.path.now args.out.now args.from args.end args.n pre.1 good.0.0 c.if-end-from-lt2.false pre.2 _ c.if-room-n-lt2.false c.wait.ensures

pub waiting-b-requires : goal.waiting-b-requires
waiting-b-requires c =
    let args = c.args in let good = c.well_formed in let pre = c.requires in (c.loop-w-test.true, omega (arith, c.loop-w.invariant.fits), thinning-number args.threshold pre.3 _ _ _ _ _ pre.1 good.0.0 _ _ _ _ _ c.loop-w.invariant c.loop-w-test.true)

pub split-s-requires : goal.split-s-requires
split-s-requires c =
    let args = c.args in let good = c.well_formed in let pre = c.requires in let w = thinning-below args.threshold pre.3 _ _ _ _ _ pre.1 good.0.0 _ _ _ _ _ c.loop-w.invariant _ c.loop-w-test.true c.waiting-b.ensures in
    (w.0, omega (arith, w.1, pre.1), pre.3, c.low_square-low.ensures)

pub shape_of-out-then-room-m : goal.shape_of-out-then-room-m
shape_of-out-then-room-m c =
    c.loop-w.invariant.same ∙ c.wait.auto.out

pub returns-then-room-m : goal.returns-then-room-m
returns-then-room-m c =
    let args = c.args in let good = c.well_formed in let pre = c.requires in thinning-back args.threshold pre.3 args.path.now args.out.now args.from args.end args.n pre.1 good.0.0 c.if-end-from-lt2.false pre.2 _ c.if-room-n-lt2.false c.wait.ensures _ (thinning-full args.threshold pre.3 _ _ _ _ _ pre.1 good.0.0 _ _ _ _ _ c.loop-w.invariant _ c.loop-w-test.true c.waiting-b.ensures _ c.split-s.ensures c.if-a-s.true c.if-room-m.true)

pub wait-requires-then-a-s : goal.wait-requires-then-a-s
wait-requires-then-a-s c =
    let args = c.args in let good = c.well_formed in let pre = c.requires in let w = thinning-below args.threshold pre.3 _ _ _ _ _ pre.1 good.0.0 _ _ _ _ _ c.loop-w.invariant _ c.loop-w-test.true c.waiting-b.ensures in
    let i = thinning-inside args.threshold pre.3 _ _ _ _ _ pre.1 good.0.0 _ _ _ _ _ c.loop-w.invariant _ c.loop-w-test.true c.waiting-b.ensures _ c.split-s.ensures c.if-a-s.true in
    (omega (arith, c.loop-w.invariant.fits), omega (arith, i, w.1, pre.1, good.0.0))

pub loop-w-smaller-then-a-s : goal.loop-w-smaller-then-a-s
loop-w-smaller-then-a-s c =
    let args = c.args in let good = c.well_formed in let pre = c.requires in omega (arith, (thinning-place args.threshold pre.3 _ _ _ _ _ pre.1 good.0.0 _ _ _ _ _ c.loop-w.invariant).1)

pub loop-w-preserved-then-a-s : goal.loop-w-preserved-then-a-s
loop-w-preserved-then-a-s c =
    let args = c.args in let good = c.well_formed in let pre = c.requires in thinning-split args.threshold pre.3 _ _ _ _ _ pre.1 good.0.0 _ _ _ _ _ c.loop-w.invariant _ c.loop-w-test.true c.waiting-b.ensures _ c.split-s.ensures c.if-a-s.true _ c.if-room-m.false c.wait-then-a-s.ensures

pub read_point-p-requires : goal.read_point-p-requires
read_point-p-requires c =
    let args = c.args in let good = c.well_formed in let pre = c.requires in omega (arith, pre.1, (thinning-place args.threshold pre.3 _ _ _ _ _ pre.1 good.0.0 _ _ _ _ _ c.loop-w.invariant).0)

pub write_point-requires : goal.write_point-requires
write_point-requires c =
    omega (arith, c.loop-w.invariant.fits)

pub loop-w-smaller : goal.loop-w-smaller
loop-w-smaller c =
    let args = c.args in let good = c.well_formed in let pre = c.requires in let w = thinning-below args.threshold pre.3 _ _ _ _ _ pre.1 good.0.0 _ _ _ _ _ c.loop-w.invariant _ c.loop-w-test.true c.waiting-b.ensures in
    omega (arith, w.0, w.1, w.2)

pub loop-w-preserved : goal.loop-w-preserved
loop-w-preserved c =
    let args = c.args in let good = c.well_formed in let pre = c.requires in thinning-write args.threshold pre.3 _ _ _ _ _ pre.1 good.0.0 _ _ _ _ _ c.loop-w.invariant _ c.loop-w-test.true c.waiting-b.ensures _ c.split-s.ensures c.if-a-s.false _ c.read_point-p.ensures _ c.write_point.ensures

pub read_point-p-requires-2 : goal.read_point-p-requires-2
read_point-p-requires-2 c =
    let args = c.args in let good = c.well_formed in let pre = c.requires in omega (arith, pre.1, (thinning-place args.threshold pre.3 _ _ _ _ _ pre.1 good.0.0 _ _ _ _ _ c.loop-w.invariant).0)

pub write_point-requires-2 : goal.write_point-requires-2
write_point-requires-2 c =
    omega (arith, c.loop-w.invariant.fits)

pub shape_of-out : goal.shape_of-out
shape_of-out c =
    c.write_point-2.auto.xs ∙ c.loop-w.invariant.same ∙ c.wait.auto.out

pub returns : goal.returns
returns c =
    let args = c.args in let good = c.well_formed in let pre = c.requires in thinning-back args.threshold pre.3 args.path.now args.out.now args.from args.end args.n pre.1 good.0.0 c.if-end-from-lt2.false pre.2 _ c.if-room-n-lt2.false c.wait.ensures _ (thinning-end args.threshold pre.3 _ _ _ _ _ pre.1 good.0.0 _ _ _ _ _ c.loop-w.invariant c.loop-w-test.false _ c.read_point-p-2.ensures _ c.write_point-2.ensures)
