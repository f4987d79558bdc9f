use Rattle.degrees.specs.Table.{degree_table}
use Rattle.degrees.specs.Degrees.{cosine_units}
use Rattle.degrees.proofs.Rule.{exact-entries}
use Rattle.degrees.proofs.Reading.{same-again}
use Rattle.degrees.proofs.cosine_units.Goals as goal

pub returns : goal.returns
unfolding cosine_units degree_table
returns c =
    let a = c.args.degrees in same-again (cosine_units a) (exact-entries a).0.within
