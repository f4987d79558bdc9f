use Rattle.host.proofs.Calls.{left_so}
use Rattle.query_solid.specs.Answers.{drawn_count}
use Rattle.floats.specs.Arith.{zero_f}
use native.Mathlib.Omega.{arith}
use mathlib.Core.Path.{ap, ◌∙◌}
use Rattle.host.proofs.larnt_check.Goals as goal
use Rattle.refusals.specs.Refusals.{answer_number}

pub returns : goal.returns
returns c =
    let e = c.check-v.ensures in (c.answer_number.ensures ∙ ap answer_number e.verdict, (left_so zero_f 16384 _ e.verdict (omega arith) e.inverses_are, (left_so zero_f 6144 _ e.verdict (omega arith) e.boxes_are, (left_so 0 1024 _ e.verdict (omega arith) e.drawn_are, c.drawn_count.ensures ∙ ap drawn_count e.verdict))))
