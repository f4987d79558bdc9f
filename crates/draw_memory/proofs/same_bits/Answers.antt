use Rattle.draw_memory.proofs.Memories.{one-pattern, same_not, same-not-2, same-by-bits}
use Rattle.floats.proofs.Patterns.{equals_itself}
use Rattle.floats.proofs.Tests.{clash}
use lib.Dec.{T}
use borrow.Author.Tests.{eqb-true}
use mathlib.Core.Path.{sym, subst}
use Rattle.draw_memory.proofs.same_bits.Goals as goal

pub float_to_bits-result : goal.float_to_bits-result
float_to_bits-result c =
    equals_itself _ c.if-a.true

pub float_to_bits-result-then-b : goal.float_to_bits-result-then-b
float_to_bits-result-then-b c =
    equals_itself _ c.if-b.true

pub returns-then-b : goal.returns-then-b
returns-then-b c =
    let args = c.args in let good = c.well_formed in record { value = same-by-bits args.a args.b c.if-a.true c.if-b.true; a_value = λ h. one-pattern args.a args.b (subst T (sym good.0.1) tt) (subst T (sym good.1.0.1) tt) (eqb-true _ _ h) }

pub returns-else-b : goal.returns-else-b
returns-else-b c =
    record { value = same-not-2 _ _ c.if-a.true c.if-b.false; a_value = λ h. clash h }

pub returns-else-a : goal.returns-else-a
returns-else-a c =
    record { value = same_not _ _ c.if-a.false; a_value = λ h. clash h }
