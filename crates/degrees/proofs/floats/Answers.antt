use mathlib.Core.Path.{refl}
use Rattle.degrees.specs.Table.{degree_table}
use Rattle.degrees.proofs.floats.Goals as goal

pub all_from_units-requires : goal.all_from_units-requires
unfolding degree_table
all_from_units-requires c =
    refl

pub returns : goal.returns
returns c =
    c.all_from_units.ensures
