use Rattle.test_queries.proofs.Counts.{two}
use Rattle.test_queries.specs.Questions.{unequal, differ_found}
use native.Mathlib.Omega.{arith}
use mathlib.Core.Path.{sym, ◌∙◌}
use Rattle.test_queries.proofs.differ_found.Goals as goal

pub returns-in-Ok-b : goal.returns-in-Ok-b
unfolding differ_found
returns-in-Ok-b c =
    (c.differ_nearest.ensures.0 ∙ sym (two differ_found c.in-Ok.is c.in-Ok-b.is), c.differ_nearest.ensures.1)

pub returns-in-Err-b : goal.returns-in-Err-b
unfolding differ_found
returns-in-Err-b c =
    (sym (two differ_found c.in-Ok.is c.in-Err-b.is), omega arith)

pub returns-in-Ok-b-2 : goal.returns-in-Ok-b-2
unfolding differ_found
returns-in-Ok-b-2 c =
    (sym (two differ_found c.in-Err.is c.in-Ok-b-2.is), omega arith)

pub returns-in-Err-b-2 : goal.returns-in-Err-b-2
unfolding differ_found
returns-in-Err-b-2 c =
    (c.miss.ensures.0 ∙ two unequal c.number.ensures c.number-in-Err-b-2.ensures ∙ sym (two differ_found c.in-Err.is c.in-Err-b-2.is), c.miss.ensures.1)
