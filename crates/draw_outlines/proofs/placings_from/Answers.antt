use Rattle.draw_outlines.proofs.Reading.{reading-start, reading-turn, reading-end}
use native.Mathlib.Omega.{arith}
use Rattle.draw_outlines.proofs.placings_from.Goals as goal

pub loop-k-init : goal.loop-k-init
loop-k-init c =
    let args = c.args in reading-start args.xs.now args.n _ c.none-p.ensures.0 c.none-p.ensures.1

pub read_numbers-requires : goal.read_numbers-requires
read_numbers-requires c =
    let pre = c.requires in omega (arith, c.loop-k-test.true, c.loop-k.invariant.upto, pre.1)

pub with-p-requires : goal.with-p-requires
with-p-requires c =
    let pre = c.requires in (omega (arith, c.loop-k-test.true, c.loop-k.invariant.spare, pre.0), omega (arith, c.loop-k.invariant.spare, c.loop-k.invariant.upto))

pub loop-k-preserved : goal.loop-k-preserved
loop-k-preserved c =
    let args = c.args in reading-turn args.xs.now args.n c.loop-k.p c.loop-k.k c.loop-k.invariant c.loop-k-test.true c.read_numbers.ensures c.matrix_of.ensures _ c.with-p.ensures.0 c.with-p.ensures.1

pub returns : goal.returns
returns c =
    let args = c.args in reading-end args.xs.now args.n c.loop-k.p c.loop-k.k c.loop-k.invariant c.loop-k-test.false
