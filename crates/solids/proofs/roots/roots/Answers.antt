use Rattle.solids.specs.Roots.{roots_of}
use Rattle.solids.proofs.roots.roots.Goals as goal

pub returns : goal.returns
unfolding roots_of
returns c =
    simp (← c.root-s.ensures, ← c.ordered.ensures)
