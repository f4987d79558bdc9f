use Rattle.std.proofs.Common.{◌-◌, ◌/◌, arith}
use Rattle.floats.proofs.Patterns.{no-nan-bits}
use Rattle.sqrt.proofs.guess.Goals as goal

pub float_from_bits-x : goal.float_from_bits-x
float_from_bits-x c =
    no-nan-bits c.args.bits (omega arith)

pub float_from_bits-y0 : goal.float_from_bits-y0
float_from_bits-y0 c =
    no-nan-bits (0x5fe3_ffff_2000_0000 - c.args.bits / 2) (omega arith)
