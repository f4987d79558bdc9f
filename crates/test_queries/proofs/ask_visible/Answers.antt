use Rattle.test_queries.proofs.Counts.{two}
use Rattle.test_queries.specs.Questions.{unequal, sight_code}
use mathlib.Core.Path.{ap, ◌∙◌}
use Rattle.test_queries.proofs.ask_visible.Goals as goal

pub returns : goal.returns
returns c =
    (c.miss.ensures.0 ∙ two unequal (c.sight_code.ensures ∙ ap sight_code c.visible-s.ensures) c.sight_code-2.ensures, c.miss.ensures.1)
