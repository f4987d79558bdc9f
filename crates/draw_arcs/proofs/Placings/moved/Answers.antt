use Rattle.draw_arcs.proofs.Moving.{moving-start, moving-turn, moving-end}
use mathlib.Core.Path.{◌≡◌}
use lib.ListN.{length}
use native.Mathlib.Omega.{arith}
use Rattle.draw_arcs.proofs.Placings.moved.Goals as goal

pub loop-i-init : goal.loop-i-init
loop-i-init c =
    moving-start _ _ _

pub loop-i-preserved : goal.loop-i-preserved
loop-i-preserved c =
    let args = c.args in let long : length args.self.held ≡ 8 = omega arith in
    moving-turn args.self.held args.self.free args.v c.loop-i.p c.loop-i.i c.loop-i.invariant (omega (arith, c.loop-i-test.true, long)) _ c.mul_position-p.ensures

pub returns : goal.returns
returns c =
    let args = c.args in let long : length args.self.held ≡ 8 = omega arith in
    moving-end args.self.held args.self.free args.v c.loop-i.p c.loop-i.i c.loop-i.invariant (omega (arith, c.loop-i-test.false, long))
