use Rattle.text_scene.proofs.Texts.{running-start, running-turn, running-feed, running-end}
use lib.ListN.{length}
use mathlib.Core.Path.{◌≡◌}
use native.Mathlib.Omega.{arith}
use Rattle.text_scene.proofs.line_end.Goals as goal

pub loop-i-init : goal.loop-i-init
loop-i-init c =
    running-start _ _ c.requires

pub returns-then-text-i-eq10 : goal.returns-then-text-i-eq10
returns-then-text-i-eq10 c =
    (c.loop-i.invariant.from, (c.loop-i.invariant.upto, running-feed _ _ _ c.loop-i.invariant c.loop-i-test.true c.if-text-i-eq10.true))

pub loop-i-preserved : goal.loop-i-preserved
loop-i-preserved c =
    running-turn _ _ _ c.loop-i.invariant c.loop-i-test.true c.if-text-i-eq10.false

pub returns : goal.returns
returns c =
    let e : c.loop-i.i ≡ length c.args.text.now = omega (arith, c.loop-i.invariant.upto) in
    (omega (arith, c.loop-i.invariant.from), (omega arith, rw e at (running-end _ _ _ c.loop-i.invariant c.loop-i-test.false)))
