use Rattle.std.proofs.lemmas.Result.{err_from_is_err_and}
use Rattle.path_chop.proofs.Halving.{some_left, subdividing-start, subdividing-room, subdividing-less, subdividing-halved, subdividing-refused, subdividing-end, subdividing-next}
use Rattle.path_chop.proofs.Waiting.{turns_next}
use mathlib.Core.Path.{◌∙◌}
use native.Mathlib.Omega.{arith}
use Rattle.path_chop.proofs.subdivide.Goals as goal

pub loop-left-init : goal.loop-left-init
loop-left-init c =
    subdividing-start _ _ _ _ _ _ _ c.requires

pub overflow_sub-left : goal.overflow_sub-left
overflow_sub-left c =
    some_left _ _ _ _ _ c.done.ensures c.if-not-done.true

pub wait-requires : goal.wait-requires
wait-requires c =
    subdividing-room _ _ _ _ _ _ _ _ _ _ _ _ _ c.loop-left.invariant _ c.done.ensures c.if-not-done.true c.wait-arg-1.given.0.1 c.wait-arg-then-not-done-1.given.0.1

pub overflow_add-k : goal.overflow_add-k
overflow_add-k c =
    omega (arith, c.loop-left.invariant.upto)

pub loop-left-smaller-then-not-done : goal.loop-left-smaller-then-not-done
loop-left-smaller-then-not-done c =
    subdividing-less _ _ _ _ _ _ _ _ _ _ _ _ _ c.loop-left.invariant _ c.done.ensures c.if-not-done.true c.wait-arg-1.given.0.1 c.wait-arg-then-not-done-1.given.0.1 _ _ c.wait.ensures.0 c.wait.ensures.1

pub loop-left-preserved-then-not-done : goal.loop-left-preserved-then-not-done
loop-left-preserved-then-not-done c =
    subdividing-halved _ _ _ _ _ _ _ _ _ _ _ _ _ c.loop-left.invariant _ c.done.ensures c.if-not-done.true c.wait-arg-1.given.0.1 c.wait-arg-then-not-done-1.given.0.1 _ _ c.wait.ensures.0 c.wait.ensures.1 _ (cc)

pub push-requires : goal.push-requires
push-requires c =
    c.loop-left.invariant.fits

pub shape_of-out-in_err-m : goal.shape_of-out-in_err-m
shape_of-out-in_err-m c =
    c.push.auto.out ∙ c.loop-left.invariant.same

pub returns-in_err-m : goal.returns-in_err-m
returns-in_err-m c =
    let p = err_from_is_err_and c.from_residual.result c.from_residual.ensures.1 in rw (p.1, p.2) (subdividing-refused _ _ _ _ _ _ _ _ _ _ _ _ _ c.loop-left.invariant _ c.done.ensures c.if-not-done.false _ c.push.ensures c.in_err-m.was)

pub shape_of-out-then-k-eq0 : goal.shape_of-out-then-k-eq0
shape_of-out-then-k-eq0 c =
    c.push.auto.out ∙ c.loop-left.invariant.same

pub returns-then-k-eq0 : goal.returns-then-k-eq0
returns-then-k-eq0 c =
    subdividing-end _ _ _ _ _ _ _ _ _ _ _ _ _ c.loop-left.invariant _ c.done.ensures c.if-not-done.false _ c.push.ensures c.in_ok-m.was c.if-k-eq0.true

pub read_spot-to-requires : goal.read_spot-to-requires
read_spot-to-requires c =
    omega (arith, c.if-k-eq0.false, c.loop-left.invariant.upto, c.read_spot-arg-in-loop-left-1.given)

pub offset_bounds-lefts-k : goal.offset_bounds-lefts-k
offset_bounds-lefts-k c =
    omega (arith, c.loop-left.invariant.upto)

pub bounds-lefts-k : goal.bounds-lefts-k
bounds-lefts-k c =
    omega (arith, c.if-k-eq0.false, c.loop-left.invariant.upto)

pub loop-left-smaller : goal.loop-left-smaller
loop-left-smaller c =
    turns_next _ _ _ _ (omega (arith, c.if-k-eq0.false))

pub loop-left-preserved : goal.loop-left-preserved
loop-left-preserved c =
    subdividing-next _ _ _ _ _ _ _ _ _ _ _ _ _ c.loop-left.invariant _ c.done.ensures c.if-not-done.false _ c.push.ensures c.in_ok-m.was _ c.read_spot-to.ensures (omega (arith, c.if-k-eq0.false)) c.push.auto.out
