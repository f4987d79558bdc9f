use Rattle.test_queries.proofs.Counts.{two}
use Rattle.test_queries.specs.Questions.{unequal, differ_built}
use native.Mathlib.Omega.{arith}
use mathlib.Core.Path.{sym, ◌∙◌}
use Rattle.test_queries.proofs.differ_built.Goals as goal

pub returns-in-Ok-b : goal.returns-in-Ok-b
unfolding differ_built
returns-in-Ok-b c =
    (c.miss.ensures.0 ∙ sym (two differ_built c.in-Ok.is c.in-Ok-b.is), c.miss.ensures.1)

pub returns-in-Err-b : goal.returns-in-Err-b
unfolding differ_built
returns-in-Err-b c =
    (sym (two differ_built c.in-Ok.is c.in-Err-b.is), omega arith)

pub returns-in-Ok-b-2 : goal.returns-in-Ok-b-2
unfolding differ_built
returns-in-Ok-b-2 c =
    (sym (two differ_built c.in-Err.is c.in-Ok-b-2.is), omega arith)

pub returns-in-Err-b-2 : goal.returns-in-Err-b-2
unfolding differ_built
returns-in-Err-b-2 c =
    (c.miss-in-Err-b-2.ensures.0 ∙ two unequal c.number.ensures c.number-in-Err-b-2.ensures ∙ sym (two differ_built c.in-Err.is c.in-Err-b-2.is), c.miss-in-Err-b-2.ensures.1)
