use Rattle.test_queries.specs.Questions.{differ_found}
use mathlib.Core.Path.{ap, ◌∙◌}
use Rattle.test_queries.proofs.ask_intersect.Goals as goal
use Rattle.tree_walk.specs.declared.Nearest.{Nearest}
use Rattle.refusals.specs.declared.Refusal.{Refusal}
use Rattle.std.specs.Prelude.{Result}

pub returns : goal.returns
returns c =
    let args = c.args in (c.differ_found.ensures.0 ∙ ap (λ (x : Result Nearest Refusal). differ_found x args.expected) c.intersect-h.ensures, c.differ_found.ensures.1)
