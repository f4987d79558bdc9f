use Rattle.lists.proofs.Tests.{Passed}
use Rattle.check_measures.specs.Values.{few_stripes}
use Rattle.scene.specs.Entries.{marks_at}
use Rattle.check_measures.proofs.values.all_few_stripes.Given as goal

abbrev pub invariant-loop-i : goal.invariant-loop-i
invariant-loop-i l = Passed (λ k. few_stripes (marks_at l.marks k)) l.n l.i
