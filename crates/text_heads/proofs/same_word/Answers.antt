use Rattle.text_heads.proofs.Words.{same-lengths, alike-start, alike-turn, alike-falls, alike_end}
use native.Mathlib.Omega.{arith}
use Rattle.text_heads.proofs.same_word.Goals as goal

pub returns-then-w-v : goal.returns-then-w-v
returns-then-w-v c =
    same-lengths _ _ c.if-w-v.true

pub loop-i-init : goal.loop-i-init
loop-i-init c =
    alike-start _ _ c.if-w-v.false

pub bounds-v-i : goal.bounds-v-i
bounds-v-i c =
    omega (arith, c.loop-i-test.true, c.loop-i.invariant.even)

pub returns-then-w-i : goal.returns-then-w-i
returns-then-w-i c =
    alike-falls _ _ _ c.loop-i.invariant c.loop-i-test.true c.if-w-i.true

pub loop-i-preserved : goal.loop-i-preserved
loop-i-preserved c =
    alike-turn _ _ _ c.loop-i.invariant c.loop-i-test.true c.if-w-i.false

pub returns : goal.returns
returns c =
    alike_end _ _ _ c.loop-i.invariant c.loop-i-test.false
