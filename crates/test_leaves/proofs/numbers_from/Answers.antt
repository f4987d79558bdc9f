use mathlib.Core.Path.{ap, ◌∙◌}
use Rattle.rows.specs.Entries.{numbers_of}
use Rattle.test_leaves.specs.Inputs.{numbers_from}
use Rattle.test_leaves.proofs.numbers_from.Goals as goal

pub returns : goal.returns
unfolding numbers_from
returns c =
    c.read_numbers.ensures ∙ ap numbers_of c.fill_floats.ensures
