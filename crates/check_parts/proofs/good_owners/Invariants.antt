use Rattle.check_parts.proofs.Owners.{Owned}
use Rattle.check_parts.proofs.good_owners.Given as goal

abbrev pub invariant-loop-i : goal.invariant-loop-i
invariant-loop-i l = Owned l.marks l.owners l.i
