use Rattle.draw_outlines.specs.Outlines.{tangent_root}
use Rattle.draw_outlines.proofs.tangent_root.Goals as goal

pub returns : goal.returns
unfolding tangent_root
returns c =
    simp (← c.root.ensures)
