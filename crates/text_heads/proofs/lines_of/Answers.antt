use Rattle.text_heads.proofs.Lines.{lined-start, lined-end, lined-full, lined-stray, lined-broken, lined-turn}
use Rattle.text_heads.specs.Cursors.{WithinNext}
use lib.ListN.{length-set}
use mathlib.Core.Path.{◌∙◌}
use native.Mathlib.Omega.{arith}
use Rattle.text_heads.proofs.lines_of.Goals as goal

pub loop-n-init : goal.loop-n-init
loop-n-init c = lined-start _ _ _ _ _ _ c.requires.0

pub shape_of-points-in-Some : goal.shape_of-points-in-Some
shape_of-points-in-Some c = c.loop-n.invariant.long-ps

pub shape_of-starts-in-Some : goal.shape_of-starts-in-Some
shape_of-starts-in-Some c = c.loop-n.invariant.long-ss

pub shape_of-owners-in-Some : goal.shape_of-owners-in-Some
shape_of-owners-in-Some c = c.loop-n.invariant.long-os

pub shape_of-points-then-k-ge2048 : goal.shape_of-points-then-k-ge2048
shape_of-points-then-k-ge2048 c = c.loop-n.invariant.long-ps

pub shape_of-starts-then-k-ge2048 : goal.shape_of-starts-then-k-ge2048
shape_of-starts-then-k-ge2048 c = c.loop-n.invariant.long-ss

pub shape_of-owners-then-k-ge2048 : goal.shape_of-owners-then-k-ge2048
shape_of-owners-then-k-ge2048 c = c.loop-n.invariant.long-os

pub shape_of-points-in_err-n : goal.shape_of-points-in_err-n
shape_of-points-in_err-n c = c.loop-n.invariant.long-ps

pub shape_of-starts-in_err-n : goal.shape_of-starts-in_err-n
shape_of-starts-in_err-n c = c.loop-n.invariant.long-ss

pub shape_of-owners-in_err-n : goal.shape_of-owners-in_err-n
shape_of-owners-in_err-n c = c.loop-n.invariant.long-os

pub shape_of-points-in_err-m : goal.shape_of-points-in_err-m
shape_of-points-in_err-m c = c.line_points.auto.points ∙ c.loop-n.invariant.long-ps

pub shape_of-starts-in_err-m : goal.shape_of-starts-in_err-m
shape_of-starts-in_err-m c = simp length-set c.loop-n.invariant.long-ss

pub shape_of-owners-in_err-m : goal.shape_of-owners-in_err-m
shape_of-owners-in_err-m c = simp length-set c.loop-n.invariant.long-os

pub returns-in-Some : goal.returns-in-Some
unfolding WithinNext
returns-in-Some c =
    record {
      owners_after = λ ns ms. lined-end _ c.args.c _ _ _ _ _ _ _ _ _ _ c.loop-n.invariant c.close_at.ensures ns ms c.in-Some.is;
      within_next = record { entries = c.requires.0.entries; points = c.loop-n.invariant.points; lines = c.loop-n.invariant.lines };
    }

pub returns-then-k-ge2048 : goal.returns-then-k-ge2048
unfolding WithinNext
returns-then-k-ge2048 c =
    record {
      owners_after = λ ns ms. lined-full _ c.args.c _ _ _ _ _ _ _ _ _ _ c.loop-n.invariant c.close_at.ensures ns ms c.in_default.is c.if-k-ge2048.true;
      within_next = tt;
    }

pub returns-in_err-n : goal.returns-in_err-n
unfolding WithinNext
returns-in_err-n c =
    record {
      owners_after = λ ns ms. rw c.from_residual.ensures (lined-stray _ c.args.c _ _ _ _ _ _ _ _ _ _ c.loop-n.invariant c.close_at.ensures ns ms c.in_default.is c.if-k-ge2048.false c.named_at.ensures c.in_err-n.was);
      within_next = rw c.from_residual.ensures tt;
    }

pub bounds-starts-k : goal.bounds-starts-k
bounds-starts-k c = omega (arith, c.if-k-ge2048.false, c.requires.1.1.0, c.loop-n.invariant.long-ss)

pub bounds-owners-k : goal.bounds-owners-k
bounds-owners-k c = omega (arith, c.if-k-ge2048.false, c.requires.1.1.1, c.loop-n.invariant.long-os)

pub line_points-requires : goal.line_points-requires
line_points-requires c = (c.loop-n.invariant.points, omega (arith, c.requires.1.0, c.loop-n.invariant.long-ps))

pub returns-in_err-m : goal.returns-in_err-m
unfolding WithinNext
returns-in_err-m c =
    record {
      owners_after = λ ns ms. rw c.from_residual-in_err-m.ensures (lined-broken _ c.args.c _ _ _ _ _ _ _ _ _ _ c.loop-n.invariant c.close_at.ensures ns ms c.in_default.is c.if-k-ge2048.false c.named_at.ensures c.in_ok-n.was c.requires.1.0 c.requires.1.1.0 c.requires.1.1.1 _ c.line_points.result c.line_points.ensures.os_after c.in_err-m.was);
      within_next = rw c.from_residual-in_err-m.ensures tt;
    }

pub loop-n-preserved : goal.loop-n-preserved
loop-n-preserved c =
    lined-turn _ c.args.c _ _ _ _ _ _ _ _ _ _ c.loop-n.invariant c.close_at.ensures c.in_default.is c.if-k-ge2048.false c.named_at.ensures c.in_ok-n.was c.requires.1.0 c.requires.1.1.0 c.requires.1.1.1 _ c.line_points.auto.points c.line_points.result c.line_points.ensures.os_after c.line_points.ensures.within_run c.in_ok-m.was
