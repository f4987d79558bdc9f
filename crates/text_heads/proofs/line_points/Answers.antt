use Rattle.text_heads.proofs.Lines.{dotted-start, dotted-end, dotted-full, dotted-stray, dotted-turn}
use Rattle.text_heads.specs.Cursors.{WithinRun}
use native.Mathlib.Omega.{arith}
use Rattle.text_heads.proofs.line_points.Goals as goal

pub loop-n-init : goal.loop-n-init
loop-n-init c =
    dotted-start _ _ _ _ c.requires.0

pub shape_of-points-in-Some : goal.shape_of-points-in-Some
shape_of-points-in-Some c =
    c.loop-n.invariant.long

pub returns-in-Some : goal.returns-in-Some
unfolding WithinRun
returns-in-Some c =
    record { os_after = λ ns ms ss os. dotted-end _ _ _ _ _ _ _ c.loop-n.invariant c.close_at.ensures ns ms ss os c.in-Some.is; within_run = c.loop-n.invariant.few }

pub shape_of-points-then-k-ge2048 : goal.shape_of-points-then-k-ge2048
shape_of-points-then-k-ge2048 c =
    c.loop-n.invariant.long

pub returns-then-k-ge2048 : goal.returns-then-k-ge2048
unfolding WithinRun
returns-then-k-ge2048 c =
    record { os_after = λ ns ms ss os. dotted-full _ _ _ _ _ _ _ c.loop-n.invariant c.close_at.ensures ns ms ss os c.in_default.is c.if-k-ge2048.true; within_run = tt }

pub shape_of-points-in_err-q : goal.shape_of-points-in_err-q
shape_of-points-in_err-q c =
    c.loop-n.invariant.long

pub returns-in_err-q : goal.returns-in_err-q
unfolding WithinRun
returns-in_err-q c =
    record { os_after = λ ns ms ss os. rw c.from_residual.ensures (dotted-stray _ _ _ _ _ _ _ c.loop-n.invariant c.close_at.ensures ns ms ss os c.in_default.is c.if-k-ge2048.false c.point_at.ensures c.in_err-q.was); within_run = rw c.from_residual.ensures tt }

pub write_point-requires : goal.write_point-requires
write_point-requires c =
    let pre = c.requires in omega (arith, c.if-k-ge2048.false, pre.1, c.loop-n.invariant.long)

pub overflow_add-k : goal.overflow_add-k
overflow_add-k c =
    omega (arith, c.if-k-ge2048.false)

pub loop-n-smaller : goal.loop-n-smaller
loop-n-smaller c =
    omega (arith, c.if-k-ge2048.false)

pub loop-n-preserved : goal.loop-n-preserved
loop-n-preserved c =
    let pre = c.requires in dotted-turn _ _ _ _ _ _ _ c.loop-n.invariant c.close_at.ensures pre.1 c.in_default.is c.if-k-ge2048.false c.point_at.ensures c.in_ok-q.was c.write_point.ensures
