use Rattle.draw_arcs.specs.Stances.{unplaced}
use Rattle.draw_arcs.proofs.stance_of.Goals as goal

pub returns : goal.returns
unfolding unplaced
returns c =
    (simp (← c.screen_of.ensures, c.none.ensures.0), c.none.ensures.1, c.none.ensures.2)
