use Rattle.degrees.specs.Table.{degree_table}
use Rattle.degrees.specs.Degrees.{sine_units}
use Rattle.degrees.proofs.Rule.{exact-entries}
use Rattle.degrees.proofs.Reading.{same-again}
use Rattle.degrees.proofs.sine_units.Goals as goal

pub returns : goal.returns
unfolding sine_units degree_table
returns c =
    let a = c.args.degrees in same-again (sine_units a) (exact-entries a).1.within
