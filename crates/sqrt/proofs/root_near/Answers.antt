use Rattle.std.proofs.Common.{T, sym, ap, ◌∙◌, subst, arith}
use lib.Ieee.{binary64, fits}
use lib.Ieee.Bits.{of_bits-to_bits}
use Rattle.floats.proofs.Patterns.{equals_itself, no-nan-bits}
use Rattle.sqrt.specs.Root.{sqrt_of}
use Rattle.sqrt.proofs.NearOne.{near-one}
use Rattle.sqrt.proofs.root_near.Goals as goal
use Rattle.sqrt.proofs.root_near.Goals.{Start}

-- what owning an `f64` tells: the format holds it
held : (c : Start) → T (fits binary64 c.args.x)
held c = subst T (sym c.well_formed.0.1) tt

pub float_to_bits-b : goal.float_to_bits-b
float_to_bits-b c =
    equals_itself c.args.x c.if-x.true

pub float_from_bits-result : goal.float_from_bits-result
float_from_bits-result c =
    no-nan-bits _ (omega arith)

pub returns-then-b-le4607182418934235136 : goal.returns-then-b-le4607182418934235136
returns-then-b-le4607182418934235136 c =
    near-one _ _ (omega arith) (omega arith) (omega arith, omega arith) ∙ ap sqrt_of (of_bits-to_bits binary64 c.args.x (held c.before.before.before))
