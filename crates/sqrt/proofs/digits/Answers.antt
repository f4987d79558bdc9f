use Rattle.std.proofs.Common.{◌^◌, ◌<◌, lt_of_lt_of_le, arith, pow_mono}
use Rattle.sqrt.proofs.Squares.{turn-0, turn-1, turns-end}
use Rattle.sqrt.proofs.digits.Goals as goal
use Rattle.sqrt.proofs.digits.Goals.{In-loop-i}
use Rattle.sqrt.proofs.digits.Goals.{then-whole-rest, else-whole-rest}

-- in the loop's body the root so far has at most 53 digits
wide : (c : In-loop-i) → c.loop-i.whole < 2 ^ 53
wide c = lt_of_lt_of_le c.loop-i.invariant.4 (pow_mono c.loop-i.invariant.3)

pub loop-i-init : goal.loop-i-init
loop-i-init c = (omega arith, omega arith, omega arith, omega arith, omega arith)

pub overflow_mul-rest : goal.overflow_mul-rest
overflow_mul-rest c = omega (arith, wide c)

pub overflow_add-rest : goal.overflow_add-rest
overflow_add-rest c = omega (arith, wide c)

pub overflow_mul-whole : goal.overflow_mul-whole
overflow_mul-whole c = omega (arith, wide c)

pub overflow_mul-whole-in-loop-i : goal.overflow_mul-whole-in-loop-i
overflow_mul-whole-in-loop-i c = omega (arith, wide c)

pub overflow_mul-rest-then-whole-rest : goal.overflow_mul-rest-then-whole-rest
overflow_mul-rest-then-whole-rest c = omega (arith, wide c.before)

pub overflow_add-whole : goal.overflow_add-whole
overflow_add-whole c = omega (arith, wide c.before)

pub loop-i-preserved : goal.loop-i-preserved
loop-i-preserved c =
    let m = c.args.m in
    let h = c.loop-i-test.true in
    elim c.if-whole-rest.branch [
      | then-whole-rest w ↦ turn-1 m c.loop-i.whole c.loop-i.rest c.loop-i.left c.loop-i.i c.if-whole-rest.whole c.if-whole-rest.rest c.loop-i.invariant h w.whole-is w.rest-is w.if-whole-rest.true
      | else-whole-rest w ↦ turn-0 m c.loop-i.whole c.loop-i.rest c.loop-i.left c.loop-i.i c.if-whole-rest.whole c.if-whole-rest.rest c.loop-i.invariant h w.whole-is w.rest-is (omega (arith, w.if-whole-rest.false, w.whole-is, w.rest-is))
    ]

pub returns : goal.returns
returns c = turns-end c.args.m c.loop-i.whole c.loop-i.rest c.loop-i.left c.loop-i.i c.loop-i.invariant c.loop-i-test.false
