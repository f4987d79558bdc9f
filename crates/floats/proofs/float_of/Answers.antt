use Rattle.floats.proofs.Patterns.{no-nan-rest, nan_pattern}
use Rattle.floats.proofs.float_of.Goals as goal

pub returns-then-magnitude-gt9218868437227405312 : goal.returns-then-magnitude-gt9218868437227405312
returns-then-magnitude-gt9218868437227405312 c =
    nan_pattern _ c.if-magnitude-gt9218868437227405312.true

pub float_from_bits-result : goal.float_from_bits-result
float_from_bits-result c =
    no-nan-rest _ c.if-magnitude-gt9218868437227405312.false
