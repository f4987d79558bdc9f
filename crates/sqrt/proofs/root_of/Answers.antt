use Rattle.std.proofs.Common.{◌-◌, arith}
use Rattle.sqrt.proofs.Squares.{Parts, parts, off}
use Rattle.sqrt.proofs.root_of.Goals as goal
use Rattle.sqrt.proofs.root_of.Goals.{After-guess-r}

known : (c : After-guess-r) → Parts (c.guess-r.result - 1)
known c = parts (c.guess-r.result - 1) (omega arith)

pub overflow_mul-a : goal.overflow_mul-a
overflow_mul-a c =
    omega (arith, known c)

pub overflow_mul-a-then-d-lt1073741824 : goal.overflow_mul-a-then-d-lt1073741824
overflow_mul-a-then-d-lt1073741824 c =
    omega (arith, known c.before.before)

pub overflow_mul-b : goal.overflow_mul-b
overflow_mul-b c =
    omega (arith, known c.before.before.before.before)

pub returns-then-rest-r : goal.returns-then-rest-r
returns-then-rest-r c =
    record {
      sum = off c.args.m (c.guess-r.result - 1) c.wrapping_sub_u64-d.result c.wrapping_sub_u64-e.result c.wrapping_sub_u64-rest.result (omega arith) c.wrapping_sub_u64-d.ensures.value c.if-d-lt1073741824.true c.wrapping_sub_u64-e.ensures.value c.if-e-lt1073741824.true c.wrapping_sub_u64-rest.ensures.value c.if-rest-r.true;
      small = c.if-rest-r.true;
    }

pub returns : goal.returns
returns c =
    let f = c.digits.ensures in record { sum = f.sum; small = omega (arith, f.small) }
