use Rattle.scene_shape.specs.Cuts.{restarted}
use Rattle.scene_shape.proofs.restarted.Goals as goal

pub returns : goal.returns
unfolding restarted
returns c =
    simp (← c.position.ensures, ← c.new.ensures)
