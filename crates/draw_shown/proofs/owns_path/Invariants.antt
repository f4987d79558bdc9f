use Rattle.draw_shown.proofs.Showing.{Owning}
use Rattle.draw_shown.proofs.owns_path.Given as goal

abbrev pub invariant-loop-j : goal.invariant-loop-j
invariant-loop-j l = Owning l.starts l.owners l.i l.j
