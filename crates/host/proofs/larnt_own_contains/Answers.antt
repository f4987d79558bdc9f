use Rattle.host.proofs.Calls.{contains-so}
use Rattle.query_solid.specs.Answers.{inside}
use mathlib.Core.Path.{ap, ◌∙◌}
use Rattle.host.proofs.larnt_own_contains.Goals as goal
use Rattle.refusals.specs.Refusals.{answer_number}

pub returns : goal.returns
returns c =
    let h = contains-so _ _ _ _ _ c.own_contains-c.ensures c.point.ensures in
    (c.answer_number.ensures ∙ ap answer_number h, c.inside.ensures ∙ ap inside h)
