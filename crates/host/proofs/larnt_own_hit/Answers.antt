use Rattle.query_solid.specs.Answers.{distance, met}
use Rattle.query_solid.specs.Own.{own_hit}
use mathlib.Core.Path.{ap, ◌∙◌}
use Rattle.host.proofs.larnt_own_hit.Goals as goal
use Rattle.refusals.specs.Refusals.{answer_number}

pub returns : goal.returns
returns c =
    let h = c.own_hit-h.ensures ∙ ap (own_hit _ _) c.ray_from.ensures in
    (c.answer_number.ensures ∙ ap answer_number h, (c.distance.ensures ∙ ap distance h, c.met.ensures ∙ ap met h))
