use native.Mathlib.Omega.{arith}
use Rattle.floats.proofs.Patterns.{no-nan-bits}
use Rattle.path_simplify.proofs.wait.Goals as goal

pub float_from_bits-out : goal.float_from_bits-out
float_from_bits-out c =
    no-nan-bits _ (omega (arith, c.requires.1))
