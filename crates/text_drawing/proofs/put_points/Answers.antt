use Rattle.text_drawing.proofs.Texts.{points-turn, points-end}
use Rattle.text_drawing.proofs.Adding.{writing_start}
use native.Mathlib.Omega.{arith}
use Rattle.text_drawing.proofs.put_points.Goals as goal

pub loop-i-init : goal.loop-i-init
loop-i-init c =
    (c.requires.1, writing_start c.requires.0)

pub put_point-d-requires : goal.put_point-d-requires
put_point-d-requires c =
    c.loop-i.invariant.1.fits

pub loop-i-preserved : goal.loop-i-preserved
loop-i-preserved c =
    let args = c.args in let pre = c.requires in (omega (arith, c.loop-i-test.true), points-turn args.path.now _ _ pre.2 c.loop-i-test.true c.read_point.ensures c.loop-i.invariant.1 c.put_point-d.ensures c.put_point-d.auto.text)

pub shape_of-text : goal.shape_of-text
shape_of-text c =
    c.loop-i.invariant.1.same

pub returns : goal.returns
returns c =
    let args = c.args in points-end args.path.now _ _ c.loop-i.invariant.0 c.loop-i-test.false c.loop-i.invariant.1
