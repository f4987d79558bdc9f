use Prim.Native.Nat.{◌-◌}
use mathlib.Core.Path.{ap, ◌∙◌}
use native.Mathlib.Omega.{arith}
use Rattle.test_words.specs.Counts.{wrong_upto}
use Rattle.test_words.proofs.Counting.{counted_start, counted-turn, counted-end}
use Rattle.test_yard.specs.Records.{right_at}
use Rattle.test_yard.proofs.wrong.Goals as goal

pub right_at-requires : goal.right_at-requires
right_at-requires c =
    omega (arith, c.count-all.ensures.1, c.loop-i-test.true)

pub loop-i-preserved : goal.loop-i-preserved
loop-i-preserved c =
    counted-turn _ _ _ _ c.loop-i.invariant c.loop-i-test.true c.right_at.ensures c.miss-n.ensures

pub returns : goal.returns
returns c =
    let args = c.args in counted-end _ _ _ _ c.loop-i.invariant c.loop-i-test.false ∙ ap (wrong_upto (right_at args.s.now)) c.count-all.ensures.0

pub loop-i-init : goal.loop-i-init
loop-i-init c =
    counted_start _ _
