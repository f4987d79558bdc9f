use mathlib.Core.Bool.{Bool, not}
use lib.Dec.{eqb}
use Rattle.rows.specs.declared.Marks.{Marks}
use Rattle.lists.proofs.Tests.{Passed}
use Rattle.scene.specs.Entries.{marks_at}
use Rattle.tree_trust.proofs.uncut.Given as goal

abbrev whole : Marks → Bool
whole m = not (eqb m.kind 7)

abbrev pub invariant-loop-i : goal.invariant-loop-i
invariant-loop-i l = Passed (λ k. whole (marks_at l.marks k)) l.n l.i
