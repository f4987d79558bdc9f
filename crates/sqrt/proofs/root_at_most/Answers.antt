use Rattle.std.proofs.Common.{T, sym, subst}
use lib.Ieee.{binary64, fits}
use lib.Ieee.Fits.{mul-fits}
use Rattle.sqrt.proofs.BySquares.{at-most-below, at-most-above}
use Rattle.sqrt.proofs.root_at_most.Goals as goal
use Rattle.sqrt.proofs.root_at_most.Goals.{Start}

-- what owning an `f64` tells: the format holds it
held_x : (c : Start) → T (fits binary64 c.args.x)
held_x c = subst T (sym c.well_formed.0.1) tt

held-l : (c : Start) → T (fits binary64 c.args.l)
held-l c = subst T (sym c.well_formed.1.0.1) tt

pub returns-then-x-l : goal.returns-then-x-l
returns-then-x-l c =
    at-most-below c.args.x c.args.l (held_x c.before.before.before.before) (held-l c.before.before.before.before) c.if-x.true c.if-l.true _ c.if-l-m.true c.if-x-l.true

pub returns-then-m-x : goal.returns-then-m-x
returns-then-m-x c =
    at-most-above c.args.x c.args.l (held_x c.before.before.before.before.before) (held-l c.before.before.before.before.before) c.if-x.true c.if-l.true _ c.if-l-m.true (mul-fits binary64 c.args.l _) c.if-m-x.true

pub returns : goal.returns
returns c =
    rw c.root.ensures
