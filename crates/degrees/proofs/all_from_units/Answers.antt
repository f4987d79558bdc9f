use mathlib.Core.Path.{refl}
use native.Mathlib.Omega.{arith}
use Rattle.degrees.proofs.Reading.{converted-turn, converted-end, read_small, read_float}
use Rattle.degrees.proofs.all_from_units.Goals as goal

pub loop-i-init : goal.loop-i-init
loop-i-init c =
    record { same = refl; upto = omega arith; done = refl }

pub from_units-requires : goal.from_units-requires
from_units-requires c =
    read_small _ c.requires _ c.loop-i-test.true

pub loop-i-smaller : goal.loop-i-smaller
loop-i-smaller c =
    omega (arith, c.loop-i-test.true)

pub loop-i-preserved : goal.loop-i-preserved
loop-i-preserved c =
    let taken = c.loop-i-test.true in converted-turn _ _ _ c.loop-i.invariant taken (read_float _ c.requires _ taken _ c.from_units.ensures)

pub returns : goal.returns
returns c =
    converted-end _ _ c.loop-i.invariant c.loop-i-test.false
