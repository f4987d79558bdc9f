use Rattle.plotter_pens.proofs.Finite.{looking-start, looking-turn, looking-bad, looking-end}
use Rattle.plotter_pens.proofs.all_finite.Goals as goal

pub loop-i-init : goal.loop-i-init
loop-i-init c =
    looking-start _

pub returns-then-not-is_finite : goal.returns-then-not-is_finite
returns-then-not-is_finite c =
    looking-bad _ _ c.loop-i.invariant c.loop-i-test.true _ c.is_finite.ensures c.if-not-is_finite.true

pub loop-i-preserved : goal.loop-i-preserved
loop-i-preserved c =
    looking-turn _ _ c.loop-i.invariant c.loop-i-test.true _ c.is_finite.ensures c.if-not-is_finite.false

pub returns : goal.returns
returns c =
    looking-end _ _ c.loop-i.invariant c.loop-i-test.false
