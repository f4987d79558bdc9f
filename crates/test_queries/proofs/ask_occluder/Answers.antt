use Rattle.test_queries.proofs.Counts.{two}
use Rattle.test_queries.specs.Questions.{unequal, name_code}
use mathlib.Core.Path.{ap, ◌∙◌}
use Rattle.test_queries.proofs.ask_occluder.Goals as goal

pub returns : goal.returns
returns c =
    (c.miss.ensures.0 ∙ two unequal (c.name_code.ensures ∙ ap name_code c.occluder-o.ensures) c.name_code-2.ensures, c.miss.ensures.1)
