use Rattle.std.proofs.lemmas.Result.{err_from_is_err_and}
use mathlib.Core.Path.{refl}
use native.Mathlib.Omega.{arith}
use Rattle.tree_walk.proofs.Turns.{scanned-start, scanned-gone, scanned-refused, scanned-turn, scanned-end}
use Rattle.tree_walk.proofs.scan.Goals as goal

pub loop-k-init : goal.loop-k-init
loop-k-init c =
    (scanned-start _ _ _ _ _, refl)

pub returns-then-at-n : goal.returns-then-at-n
returns-then-at-n c =
    scanned-gone _ _ _ _ _ _ _ c.loop-k.invariant.0 (omega (arith, c.loop-k.invariant.1, c.if-at-n.true))

pub returns-in_err-b : goal.returns-in_err-b
returns-in_err-b c =
    let p = err_from_is_err_and c.from_residual.result c.from_residual.ensures.1 in rw (p.1, p.2) (scanned-refused _ _ _ _ _ _ _ c.loop-k.invariant.0 c.loop-k-test.true
    (omega (arith, c.loop-k.invariant.1, c.if-at-n.false)) _ _ _
    c.index.ensures.0 c.entry_hit.ensures c.tried.ensures _ c.in_err-b.was)

pub loop-k-preserved : goal.loop-k-preserved
loop-k-preserved c = (
  scanned-turn _ _ _ _ _ _ _ c.loop-k.invariant.0 c.loop-k-test.true
      (omega (arith, c.loop-k.invariant.1, c.if-at-n.false)) _ _ _
      c.index.ensures.0 c.entry_hit.ensures c.tried.ensures _ c.in_ok-b.was,
  c.loop-k.invariant.1,
)

pub returns : goal.returns
returns c =
    scanned-end _ _ _ _ _ _ _ c.loop-k.invariant.0 c.loop-k-test.false
