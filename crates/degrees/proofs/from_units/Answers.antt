use Rattle.degrees.specs.Degrees.{from_units}
use Rattle.degrees.proofs.Reading.{same-again, cast_fits}
use Rattle.degrees.proofs.from_units.Goals as goal

pub int_to_float-result : goal.int_to_float-result
int_to_float-result c =
    cast_fits c.args.z c.requires

pub returns : goal.returns
unfolding from_units
returns c =
    rw (same-again c.args.z c.requires)
