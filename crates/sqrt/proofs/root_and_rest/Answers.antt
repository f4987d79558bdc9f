use Rattle.std.proofs.Common.{T, pos, sym, ap, ◌∙◌, subst, arith, w64, SFits}
use lib.Ieee.{binary64, fits}
use lib.Ieee.Bits.{of_bits-to_bits}
use Rattle.sqrt.specs.Root.{sqrt_of, rest_of}
use Rattle.sqrt.proofs.Signs.{above_no_nan, bits_pos, top-root, zero-root, other-root}
use Rattle.sqrt.proofs.root_and_rest.Goals as goal
use Rattle.sqrt.proofs.root_and_rest.Goals.{Start}

-- what owning an `f64` tells: the format holds it
held : (c : Start) → T (fits binary64 c.args.x)
held c = subst T (sym c.well_formed.0.1) tt

zero_held : SFits w64 (pos 0)
zero_held = record { sfits = omega arith }

pub float_to_bits-b : goal.float_to_bits-b
float_to_bits-b c =
    above_no_nan c.args.x c.if-x.true

pub positive-requires : goal.positive-requires
positive-requires c =
    (bits_pos c.args.x (held c.before.before.before) c.if-x.true, c.if-b-lt9218868437227405312.true)

pub returns-then-b-lt9218868437227405312 : goal.returns-then-b-lt9218868437227405312
returns-then-b-lt9218868437227405312 c =
    let e = of_bits-to_bits binary64 c.args.x (held c.before.before.before.before) in
    record {
      answer = c.positive.ensures.answer ∙ ap sqrt_of e;
      lent = c.positive.ensures.lent ∙ ap rest_of e;
      held = c.positive.ensures.held;
    }

pub returns-else-b-lt9218868437227405312 : goal.returns-else-b-lt9218868437227405312
returns-else-b-lt9218868437227405312 c =
    let r = top-root c.args.x (held c.before.before) c.if-x.true c.if-b-lt9218868437227405312.false in
    record { answer = r.0; lent = r.1; held = zero_held }

pub returns-then-x-2 : goal.returns-then-x-2
returns-then-x-2 c =
    let r = zero-root c.args.x c.if-x-2.true in record { answer = r.0; lent = r.1; held = zero_held }

pub returns-else-x-2 : goal.returns-else-x-2
returns-else-x-2 c =
    let r = other-root c.args.x c.if-x.false c.if-x-2.false in record { answer = r.0; lent = r.1; held = zero_held }
