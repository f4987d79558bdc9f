use Rattle.draw_outlines.specs.Calls.{placement_at}
use Rattle.draw_outlines.proofs.stance_at.Goals as goal

pub returns : goal.returns
unfolding placement_at
returns c =
    simp (← c.screen_of.ensures)
