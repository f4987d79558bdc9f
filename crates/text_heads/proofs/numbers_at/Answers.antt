use Rattle.text_heads.proofs.Numbers.{gathered-start, gathered-turn, gathered-stray, gathered-end}
use native.Mathlib.Omega.{arith}
use Rattle.text_heads.proofs.numbers_at.Goals as goal

pub loop-i-init : goal.loop-i-init
loop-i-init c =
    gathered-start _ _ _ _ c.requires

pub shape_of-row-in_err-v : goal.shape_of-row-in_err-v
shape_of-row-in_err-v c =
    c.loop-i.invariant.long

pub returns-in_err-v : goal.returns-in_err-v
returns-in_err-v c =
    let pre = c.requires in record { result_after = rw c.from_residual.ensures (gathered-stray _ _ _ _ (pre) _ _ _ c.loop-i.invariant c.loop-i-test.true c.number_at.ensures c.in_err-v.was); row_unchanged = c.loop-i.invariant.rest }

pub bounds-row-i : goal.bounds-row-i
bounds-row-i c =
    let pre = c.requires in omega (arith, c.loop-i-test.true, pre, c.loop-i.invariant.long)

pub loop-i-preserved : goal.loop-i-preserved
loop-i-preserved c =
    let pre = c.requires in gathered-turn _ _ _ _ (pre) _ _ _ c.loop-i.invariant c.loop-i-test.true c.number_at.ensures c.in_ok-v.was

pub shape_of-row : goal.shape_of-row
shape_of-row c =
    c.loop-i.invariant.long

pub returns : goal.returns
returns c =
    let pre = c.requires in record { result_after = gathered-end _ _ _ _ (pre) _ _ _ c.loop-i.invariant c.loop-i-test.false; row_unchanged = c.loop-i.invariant.rest }
