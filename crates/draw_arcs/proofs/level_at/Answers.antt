use Rattle.draw_arcs.specs.Rings.{level_at}
use Rattle.draw_arcs.proofs.level_at.Goals as goal

pub returns : goal.returns
unfolding level_at
returns c =
    simp (← c.new.ensures, ← c.new-2.ensures, ← c.new-3.ensures)
