use Rattle.lists.proofs.Tests.{Passed}
use Rattle.check_measures.specs.Measures.{measured}
use Rattle.scene.specs.Entries.{marks_at, numbers_at}
use Rattle.check_measures.proofs.measures.all_measured.Given as goal

abbrev pub invariant-loop-i : goal.invariant-loop-i
invariant-loop-i l = Passed (λ k. measured (marks_at l.marks k) (numbers_at l.numbers k)) l.n l.i
